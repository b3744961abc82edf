use Rattle.std.proofs.Common.{inl, ℕ, List, sym, subst}
use Rattle.disk_model.specs.Disk.{Kept}
use Rattle.disk_model.proofs.Moments.{joined, weaker}
use Rattle.journal_areas.specs.Areas.{StandsFor}
use Rattle.journal_moves.specs.Gathering.{sizes_of}
use Rattle.journal_moves.specs.Moves.{IsMove, IsEither, move_calls}
use Rattle.journal_moves.proofs.Steps.{reserved_in}
use Rattle.journal_moves.proofs.Outcomes.{made_same, failed_same, none_same}
use Rattle.journal_moves.proofs.Stopped.{stopped_same}
use Rattle.journal_moves.proofs.moving.write_pieces.Goals as goal

pub returns-in_default-clause-any_moment : goal.returns-in_default-clause-any_moment
returns-in_default-clause-any_moment g c told old lists move =
    let D = g.D.Disk in
    let P : List ℕ → Type 0 = λ image. StandsFor image old in
    let kept = D.kept c.args.disk.now in
    let first =
    reserved_in D.moment D.left_since c.args.disk.now c.reserve.new.self c.args.at.now.superblock kept (D.kept c.reserve.new.self) old move.is_at.keeps
    c.reserve.ensures.same (λ image left. g.met.D.Disk.only_now c.args.disk.now image told left) (c.reserve.ensures.time told) in
    weaker D.moment D.left_since c.args.disk.now c.reserve.new.self P (IsEither old lists) first (λ image p. inl p)

pub returns-in-Ok-move_on-clause-done : goal.returns-in-Ok-move_on-clause-done
returns-in-Ok-move_on-clause-done g c told old lists move =
    let D = g.D.Disk in
    let again = subst (λ (k : Kept). IsMove c.args.at.now.superblock k c.args.at.now.end old c.args.slot.now c.args.payloads.now c.args.numbers.now lists) (sym c.reserve.ensures.same) move in
    c.in-Ok-move_on.ensures.done told old lists again

pub returns-in-Ok-move_on-clause-any_moment : goal.returns-in-Ok-move_on-clause-any_moment
returns-in-Ok-move_on-clause-any_moment g c told old lists move =
    let D = g.D.Disk in
    let P : List ℕ → Type 0 = λ image. StandsFor image old in
    let kept = D.kept c.args.disk.now in
    let first =
    reserved_in D.moment D.left_since c.args.disk.now c.reserve.new.self c.args.at.now.superblock kept (D.kept c.reserve.new.self) old move.is_at.keeps
    c.reserve.ensures.same (λ image left. g.met.D.Disk.only_now c.args.disk.now image told left) (c.reserve.ensures.time told) in
    let again = subst (λ (k : Kept). IsMove c.args.at.now.superblock k c.args.at.now.end old c.args.slot.now c.args.payloads.now c.args.numbers.now lists) (sym c.reserve.ensures.same) move in
    joined D.moment D.left_since c.args.disk.now c.reserve.new.self c.move_on.new.disk P (IsEither old lists) (IsEither old lists) first
    (c.move_on.ensures.any_moment told old lists again) (λ image p. inl p) (λ image p. p)

pub returns-in-Err-clause-any_moment : goal.returns-in-Err-clause-any_moment
returns-in-Err-clause-any_moment g c told old lists move =
    let D = g.D.Disk in
    let P : List ℕ → Type 0 = λ image. StandsFor image old in
    let kept = D.kept c.args.disk.now in
    let first =
    reserved_in D.moment D.left_since c.args.disk.now c.reserve.new.self c.args.at.now.superblock kept (D.kept c.reserve.new.self) old move.is_at.keeps
    c.reserve.ensures.same (λ image left. g.met.D.Disk.only_now c.args.disk.now image told left) (c.reserve.ensures.time told) in
    let again = subst (λ (k : Kept). IsMove c.args.at.now.superblock k c.args.at.now.end old c.args.slot.now c.args.payloads.now c.args.numbers.now lists) (sym c.reserve.ensures.same) move in
    joined D.moment D.left_since c.args.disk.now c.reserve.new.self c.move_on.new.disk P (IsEither old lists) (IsEither old lists) first
    (c.move_on.ensures.any_moment told old lists again) (λ image p. inl p) (λ image p. p)

pub returns-in_default-clause-no_call : goal.returns-in_default-clause-no_call
returns-in_default-clause-no_call g c told memory =
    let D = g.D.Disk in
    none_same (D.fails c.args.disk.now) (D.fails c.reserve.new.self) (c.reserve.ensures.plan told)

pub returns-in-Ok-move_on-clause-made : goal.returns-in-Ok-move_on-clause-made
returns-in-Ok-move_on-clause-made g c told =
    let D = g.D.Disk in
    made_same (D.fails c.args.disk.now) (D.fails c.reserve.new.self) (D.fails c.move_on.new.disk) (move_calls c.args.at.now.superblock c.args.at.now.end (sizes_of c.args.payloads.now)) (c.reserve.ensures.plan told) (c.in-Ok-move_on.ensures.made told)

pub returns-in-Err-clause-failed : goal.returns-in-Err-clause-failed
returns-in-Err-clause-failed g c told broken =
    let D = g.D.Disk in
    failed_same (D.fails c.args.disk.now) (D.fails c.reserve.new.self) (move_calls c.args.at.now.superblock c.args.at.now.end (sizes_of c.args.payloads.now)) (c.reserve.ensures.plan told) (c.in-Err.ensures.failed told)

pub returns-in-Err-clause-stopped : goal.returns-in-Err-clause-stopped
returns-in-Err-clause-stopped g c told old lists move broken =
    let D = g.D.Disk in
    let again = subst (λ (k : Kept). IsMove c.args.at.now.superblock k c.args.at.now.end old c.args.slot.now c.args.payloads.now c.args.numbers.now lists) (sym c.reserve.ensures.same) move in
    stopped_same (D.fails c.args.disk.now) (D.fails c.reserve.new.self) (D.kept c.move_on.new.disk) (move_calls c.args.at.now.superblock c.args.at.now.end (sizes_of c.args.payloads.now)) old lists
    (c.reserve.ensures.plan told) (c.in-Err.ensures.stopped told old lists again)
