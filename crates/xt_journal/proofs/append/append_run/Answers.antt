use Rattle.std.proofs.Common.{◌∙◌, ap, arith, true, false}
use Rattle.xt_base.specs.Faults.{fault_count_after}
use Rattle.disk_model.proofs.Moments.{joined}
use Rattle.xt_journal.specs.Append.{IsWithAllOrNone}
use Rattle.xt_journal.proofs.Outcomes.{no_calls, same_calls}
use Rattle.xt_journal.proofs.Steps.{keeps_any, turn_at, same_plan, reserved_first}
use Rattle.xt_journal.proofs.append.append_run.Goals as goal

pub returns-in_default-clause-any_moment : goal.returns-in_default-clause-any_moment
returns-in_default-clause-any_moment g c told super payloads more goes run =
    let D = g.D.Disk in
    reserved_first D.moment D.left_since c.args.disk.now c.reserve.new.self (D.kept c.args.disk.now) (D.kept c.reserve.new.self) payloads more (keeps_any super (D.kept c.args.disk.now) payloads goes.keeps)
    c.reserve.ensures.same (λ image left. g.met.D.Disk.only_now c.args.disk.now image told left) (c.reserve.ensures.time told)

pub returns-in_default-clause-calls : goal.returns-in_default-clause-calls
returns-in_default-clause-calls g c told =
    let D = g.D.Disk in
    no_calls (D.fails c.args.disk.now) (D.fails c.reserve.new.self) (c.reserve.ensures.plan told)

pub returns-in_default-clause-count : goal.returns-in_default-clause-count
returns-in_default-clause-count g c = c.reserve.ensures.count

pub returns-in_default-clause-same : goal.returns-in_default-clause-same
returns-in_default-clause-same g c memory = c.reserve.ensures.same

pub write_records-requires-clause-place : goal.write_records-requires-clause-place
write_records-requires-clause-place g c = omega (arith, c.requires.needed, c.in-Ok.ensures.reserved)

pub write_records-requires-clause-small : goal.write_records-requires-clause-small
write_records-requires-clause-small g c = omega (arith, c.requires.needed, c.requires.some, c.ranges.need.fits)

pub write_records-requires-clause-noted : goal.write_records-requires-clause-noted
write_records-requires-clause-noted g c = omega (arith, c.requires.needed, c.in-Ok.ensures.room)

pub returns-in-Ok-write_records-clause-turn : goal.returns-in-Ok-write_records-clause-turn
returns-in-Ok-write_records-clause-turn g c told super payloads more goes run =
    let D = g.D.Disk in
    c.in-Ok-write_records.ensures.done told super payloads more
    (turn_at super (D.kept c.args.disk.now) (D.kept c.reserve.new.self) c.args.end c.args.piece.now payloads more c.reserve.ensures.same goes run)

pub returns-in-Ok-write_records-clause-any_moment : goal.returns-in-Ok-write_records-clause-any_moment
returns-in-Ok-write_records-clause-any_moment g c told super payloads more goes run =
    let D = g.D.Disk in
    joined D.moment D.left_since c.args.disk.now c.reserve.new.self c.write_records.new.disk
    (IsWithAllOrNone payloads more) (IsWithAllOrNone payloads more) (IsWithAllOrNone payloads more)
    (reserved_first D.moment D.left_since c.args.disk.now c.reserve.new.self (D.kept c.args.disk.now) (D.kept c.reserve.new.self) payloads more (keeps_any super (D.kept c.args.disk.now) payloads goes.keeps)
    c.reserve.ensures.same (λ image left. g.met.D.Disk.only_now c.args.disk.now image told left) (c.reserve.ensures.time told))
    (c.write_records.ensures.any_moment told super payloads more
    (turn_at super (D.kept c.args.disk.now) (D.kept c.reserve.new.self) c.args.end c.args.piece.now payloads more c.reserve.ensures.same goes run))
    (λ image p. p) (λ image p. p)

pub returns-in-Ok-write_records-clause-calls : goal.returns-in-Ok-write_records-clause-calls
returns-in-Ok-write_records-clause-calls g c told =
    let D = g.D.Disk in
    same_calls (D.fails c.args.disk.now) (D.fails c.reserve.new.self) (D.fails c.write_records.new.disk) (c.reserve.ensures.plan told)
    (c.in-Ok-write_records.ensures.succeeded told) (c.in-Ok-write_records.ensures.plan told)

pub returns-in-Ok-write_records-clause-count : goal.returns-in-Ok-write_records-clause-count
returns-in-Ok-write_records-clause-count g c = c.in-Ok-write_records.ensures.count ∙ ap (fault_count_after false) c.reserve.ensures.count

pub returns-in-Err-clause-any_moment : goal.returns-in-Err-clause-any_moment
returns-in-Err-clause-any_moment g c told super payloads more goes run =
    let D = g.D.Disk in
    joined D.moment D.left_since c.args.disk.now c.reserve.new.self c.write_records.new.disk
    (IsWithAllOrNone payloads more) (IsWithAllOrNone payloads more) (IsWithAllOrNone payloads more)
    (reserved_first D.moment D.left_since c.args.disk.now c.reserve.new.self (D.kept c.args.disk.now) (D.kept c.reserve.new.self) payloads more (keeps_any super (D.kept c.args.disk.now) payloads goes.keeps)
    c.reserve.ensures.same (λ image left. g.met.D.Disk.only_now c.args.disk.now image told left) (c.reserve.ensures.time told))
    (c.write_records.ensures.any_moment told super payloads more
    (turn_at super (D.kept c.args.disk.now) (D.kept c.reserve.new.self) c.args.end c.args.piece.now payloads more c.reserve.ensures.same goes run))
    (λ image p. p) (λ image p. p)

pub returns-in-Err-clause-turn : goal.returns-in-Err-clause-turn
returns-in-Err-clause-turn g c told super payloads more goes run =
    let D = g.D.Disk in
    same_plan super (D.fails c.args.disk.now) (D.fails c.reserve.new.self) (D.kept c.write_records.new.disk) payloads more (c.reserve.ensures.plan told)
    (c.in-Err.ensures.stopped told super payloads more
    (turn_at super (D.kept c.args.disk.now) (D.kept c.reserve.new.self) c.args.end c.args.piece.now payloads more c.reserve.ensures.same goes run))
