use Rattle.std.proofs.Common.{ℕ, ◌+◌, List, sym, ◌∙◌, ap, subst}
use Rattle.disk_model.specs.Disk.{Kept, at_rest}
use Rattle.disk_model.proofs.Moments.{weaker}
use Rattle.xt_base.specs.Overlay.{overlay}
use Rattle.journal_records.specs.Calls.{MayBeTorn}
use Rattle.journal_areas.specs.Areas.{StandsFor}
use Rattle.journal_areas.specs.Sites.{put, slot_at}
use Rattle.journal_moves.specs.Moves.{Stages}
use Rattle.journal_moves.proofs.Outcomes.{on_ok, both_ok}
use Rattle.journal_moves.proofs.Steps.{numbers_torn, numbers_done}
use Rattle.journal_moves.proofs.parts.write_numbers.Goals as goal

pub returns-clause-done : goal.returns-clause-done
returns-clause-done g c told old payloads place is which shut are fits =
    let D = g.D.Disk in
    let s = c.args.superblock.now in
    let second = c.args.second in
    let kept = D.kept c.args.disk.now in
    on_ok c.write_synced.result (c.write_synced.ensures.done told is.keeps.rests)
    (λ done.
    let at = done ∙ ap (λ (n : ℕ). at_rest (overlay kept.read (n + 1) c.args.numbers.now)) c.slot_place.ensures in
    subst (λ (k : Kept). Stages (put second s (record c.args.slot.now { gate = (slot_at second s).gate })) k old place payloads) (sym at)
    (numbers_done s kept old place payloads is second which shut c.args.numbers.now c.args.slot.now c.requires.size are fits))

pub returns-clause-any_moment : goal.returns-clause-any_moment
returns-clause-any_moment g c told old payloads place is which shut =
    let D = g.D.Disk in
    let s = c.args.superblock.now in
    let second = c.args.second in
    let kept = D.kept c.args.disk.now in
    weaker D.moment D.left_since c.args.disk.now c.write_synced.new.disk (MayBeTorn (c.slot_place.result + 1) c.args.numbers.now kept.read) (λ (image : List ℕ). StandsFor image old)
    (c.write_synced.ensures.any_moment told is.keeps.rests)
    (λ image torn.
    numbers_torn s kept old place payloads is second which shut c.args.numbers.now c.requires.size image
    (subst (λ (n : ℕ). MayBeTorn (n + 1) c.args.numbers.now kept.read image) c.slot_place.ensures torn))

pub returns-clause-made : goal.returns-clause-made
returns-clause-made g c told =
    both_ok c.write_synced.result (c.write_synced.ensures.succeeded told) (c.write_synced.ensures.plan told) (λ all goes. record { succeeded = all; plan = goes })
