use Rattle.std.proofs.Common.{[], ◌∷◌, ◌∙◌, ap, arith, true, false}
use Rattle.xt_base.specs.Faults.{fault_count_after}
use Rattle.disk_model.proofs.Moments.{joined}
use Rattle.xt_journal.specs.Append.{IsWithOrWithout}
use Rattle.xt_journal.proofs.Outcomes.{no_calls, same_calls}
use Rattle.xt_journal.proofs.Steps.{keeps_any, length-piece, turn_of, same_plan, reserved_first}
use Rattle.xt_journal.proofs.append.append_to.Goals as goal

pub returns-in_default-clause-any_moment : goal.returns-in_default-clause-any_moment
returns-in_default-clause-any_moment g c told super payloads goes =
    let D = g.D.Disk in
    reserved_first D.moment D.left_since c.args.disk.now c.reserve.new.self (D.kept c.args.disk.now) (D.kept c.reserve.new.self) payloads (c.args.payload.now ∷ []) (keeps_any super (D.kept c.args.disk.now) payloads goes.keeps)
    c.reserve.ensures.same (λ image left. g.met.D.Disk.only_now c.args.disk.now image told left) (c.reserve.ensures.time told)

pub returns-in_default-clause-calls : goal.returns-in_default-clause-calls
returns-in_default-clause-calls g c told =
    let D = g.D.Disk in
    no_calls (D.fails c.args.disk.now) (D.fails c.reserve.new.self) (c.reserve.ensures.plan told)

pub returns-in_default-clause-count : goal.returns-in_default-clause-count
returns-in_default-clause-count g c = c.reserve.ensures.count

pub returns-in_default-clause-same : goal.returns-in_default-clause-same
returns-in_default-clause-same g c memory = c.reserve.ensures.same

pub returns-in_default-piece_of-clause-any_moment : goal.returns-in_default-piece_of-clause-any_moment
returns-in_default-piece_of-clause-any_moment g c told super payloads goes =
    let D = g.D.Disk in
    reserved_first D.moment D.left_since c.args.disk.now c.reserve.new.self (D.kept c.args.disk.now) (D.kept c.reserve.new.self) payloads (c.args.payload.now ∷ []) (keeps_any super (D.kept c.args.disk.now) payloads goes.keeps)
    c.reserve.ensures.same (λ image left. g.met.D.Disk.only_now c.args.disk.now image told left) (c.reserve.ensures.time told)

pub returns-in_default-piece_of-clause-calls : goal.returns-in_default-piece_of-clause-calls
returns-in_default-piece_of-clause-calls g c told =
    let D = g.D.Disk in
    no_calls (D.fails c.args.disk.now) (D.fails c.reserve.new.self) (c.reserve.ensures.plan told)

pub returns-in_default-piece_of-clause-count : goal.returns-in_default-piece_of-clause-count
returns-in_default-piece_of-clause-count g c = c.reserve.ensures.count

pub returns-in_default-piece_of-clause-same : goal.returns-in_default-piece_of-clause-same
returns-in_default-piece_of-clause-same g c memory = c.reserve.ensures.same

pub write_records-requires-clause-place : goal.write_records-requires-clause-place
write_records-requires-clause-place g c =
    let D = g.D.Disk in
    let size = length-piece c.args.payload.now c.as_slice.result.now (c.as_slice.ensures.value ∙ c.in-Ok-piece_of.ensures) in
    omega (arith, size, c.requires.needed, c.in-Ok.ensures.reserved)

pub write_records-requires-clause-small : goal.write_records-requires-clause-small
write_records-requires-clause-small g c = omega (arith, c.requires.needed, c.ranges.need.fits)

pub write_records-requires-clause-noted : goal.write_records-requires-clause-noted
write_records-requires-clause-noted g c =
    let D = g.D.Disk in
    let size = length-piece c.args.payload.now c.as_slice.result.now (c.as_slice.ensures.value ∙ c.in-Ok-piece_of.ensures) in
    omega (arith, size, c.requires.needed, c.in-Ok.ensures.room)

pub returns-in-Ok-write_records-clause-turn : goal.returns-in-Ok-write_records-clause-turn
returns-in-Ok-write_records-clause-turn g c told super payloads goes =
    let D = g.D.Disk in
    c.in-Ok-write_records.ensures.done told super payloads (c.args.payload.now ∷ [])
    (turn_of super (D.kept c.args.disk.now) (D.kept c.reserve.new.self) c.args.end c.as_slice.result.now payloads c.args.payload.now c.reserve.ensures.same goes
    (c.as_slice.ensures.value ∙ c.in-Ok-piece_of.ensures))

pub returns-in-Ok-write_records-clause-any_moment : goal.returns-in-Ok-write_records-clause-any_moment
returns-in-Ok-write_records-clause-any_moment g c told super payloads goes =
    let D = g.D.Disk in
    joined D.moment D.left_since c.args.disk.now c.reserve.new.self c.write_records.new.disk
    (IsWithOrWithout payloads c.args.payload.now) (IsWithOrWithout payloads c.args.payload.now) (IsWithOrWithout payloads c.args.payload.now)
    (reserved_first D.moment D.left_since c.args.disk.now c.reserve.new.self (D.kept c.args.disk.now) (D.kept c.reserve.new.self) payloads (c.args.payload.now ∷ []) (keeps_any super (D.kept c.args.disk.now) payloads goes.keeps)
    c.reserve.ensures.same (λ image left. g.met.D.Disk.only_now c.args.disk.now image told left) (c.reserve.ensures.time told))
    (c.write_records.ensures.any_moment told super payloads (c.args.payload.now ∷ [])
    (turn_of super (D.kept c.args.disk.now) (D.kept c.reserve.new.self) c.args.end c.as_slice.result.now payloads c.args.payload.now c.reserve.ensures.same goes
    (c.as_slice.ensures.value ∙ c.in-Ok-piece_of.ensures)))
    (λ image p. p) (λ image p. p)

pub returns-in-Ok-write_records-clause-calls : goal.returns-in-Ok-write_records-clause-calls
returns-in-Ok-write_records-clause-calls g c told =
    let D = g.D.Disk in
    same_calls (D.fails c.args.disk.now) (D.fails c.reserve.new.self) (D.fails c.write_records.new.disk) (c.reserve.ensures.plan told)
    (c.in-Ok-write_records.ensures.succeeded told) (c.in-Ok-write_records.ensures.plan told)

pub returns-in-Ok-write_records-clause-count : goal.returns-in-Ok-write_records-clause-count
returns-in-Ok-write_records-clause-count g c = c.in-Ok-write_records.ensures.count ∙ ap (fault_count_after false) c.reserve.ensures.count

pub returns-clause-count : goal.returns-clause-count
returns-clause-count g c = c.in-Err.ensures.count ∙ ap (fault_count_after true) c.reserve.ensures.count

pub returns-clause-any_moment : goal.returns-clause-any_moment
returns-clause-any_moment g c told super payloads goes =
    let D = g.D.Disk in
    joined D.moment D.left_since c.args.disk.now c.reserve.new.self c.write_records.new.disk
    (IsWithOrWithout payloads c.args.payload.now) (IsWithOrWithout payloads c.args.payload.now) (IsWithOrWithout payloads c.args.payload.now)
    (reserved_first D.moment D.left_since c.args.disk.now c.reserve.new.self (D.kept c.args.disk.now) (D.kept c.reserve.new.self) payloads (c.args.payload.now ∷ []) (keeps_any super (D.kept c.args.disk.now) payloads goes.keeps)
    c.reserve.ensures.same (λ image left. g.met.D.Disk.only_now c.args.disk.now image told left) (c.reserve.ensures.time told))
    (c.write_records.ensures.any_moment told super payloads (c.args.payload.now ∷ [])
    (turn_of super (D.kept c.args.disk.now) (D.kept c.reserve.new.self) c.args.end c.as_slice.result.now payloads c.args.payload.now c.reserve.ensures.same goes
    (c.as_slice.ensures.value ∙ c.in-Ok-piece_of.ensures)))
    (λ image p. p) (λ image p. p)

pub returns-clause-turn : goal.returns-clause-turn
returns-clause-turn g c told super payloads goes =
    let D = g.D.Disk in
    same_plan super (D.fails c.args.disk.now) (D.fails c.reserve.new.self) (D.kept c.write_records.new.disk) payloads (c.args.payload.now ∷ []) (c.reserve.ensures.plan told)
    (c.in-Err.ensures.stopped told super payloads (c.args.payload.now ∷ [])
    (turn_of super (D.kept c.args.disk.now) (D.kept c.reserve.new.self) c.args.end c.as_slice.result.now payloads c.args.payload.now c.reserve.ensures.same goes
    (c.as_slice.ensures.value ∙ c.in-Ok-piece_of.ensures)))
