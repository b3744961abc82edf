use Rattle.std.proofs.Common.{ℕ, [], ◌∷◌, Some, sym, ◌∙◌, ap, subst}
use Rattle.disk_model.specs.Disk.{Kept, at_rest}
use Rattle.disk_model.proofs.Moments.{weaker}
use Rattle.xt_base.specs.Overlay.{overlay}
use Rattle.journal_records.specs.Calls.{MayBeTorn, IsTornAt}
use Rattle.journal_areas.specs.Format.{open_gate}
use Rattle.journal_areas.specs.Kept.{KeepsIn}
use Rattle.journal_areas.specs.Sites.{put, slot_at}
use Rattle.journal_moves.specs.Moves.{IsEither}
use Rattle.journal_moves.proofs.Outcomes.{on_ok, both_ok, both_err}
use Rattle.journal_moves.proofs.Steps.{open_torn, open_stopped, open_done}
use Rattle.journal_moves.proofs.parts.open_slot.Goals as goal

pub returns-clause-done : goal.returns-clause-done
returns-clause-done g c told old payloads place is which next =
    let D = g.D.Disk in
    let s = c.args.superblock.now in
    let second = c.args.second in
    let kept = D.kept c.args.disk.now in
    on_ok c.write_synced.result (c.write_synced.ensures.done told is.keeps.rests)
    (λ done.
    let at = done ∙ ap (λ (n : ℕ). at_rest (overlay kept.read n (open_gate ∷ []))) c.slot_place.ensures in
    subst (λ (k : Kept). KeepsIn (Some (put second s (record (slot_at second s) { gate = open_gate }))) k payloads) (sym at)
    (open_done s kept old place payloads is second which next))

pub returns-clause-any_moment : goal.returns-clause-any_moment
returns-clause-any_moment g c told old payloads place is which next =
    let D = g.D.Disk in
    let s = c.args.superblock.now in
    let second = c.args.second in
    let kept = D.kept c.args.disk.now in
    weaker D.moment D.left_since c.args.disk.now c.write_synced.new.disk (MayBeTorn c.slot_place.result (open_gate ∷ []) kept.read) (IsEither old payloads)
    (c.write_synced.ensures.any_moment told is.keeps.rests)
    (λ image torn.
    open_torn s kept old place payloads is second which next image
    (subst (λ (n : ℕ). MayBeTorn n (open_gate ∷ []) kept.read image) c.slot_place.ensures torn))

pub returns-clause-stopped : goal.returns-clause-stopped
returns-clause-stopped g c told old payloads place is which next =
    let D = g.D.Disk in
    let s = c.args.superblock.now in
    let kept = D.kept c.args.disk.now in
    let left = D.kept c.write_synced.new.disk in
    both_err c.write_synced.result (c.write_synced.ensures.failed told) (c.write_synced.ensures.torn told is.keeps.rests)
    (λ failed torn.
    open_stopped s kept old place payloads is c.args.second which next (D.fails c.args.disk.now) left failed
    (subst (λ (n : ℕ). IsTornAt n (open_gate ∷ []) kept.read left) c.slot_place.ensures torn))

pub returns-clause-made : goal.returns-clause-made
returns-clause-made g c told =
    both_ok c.write_synced.result (c.write_synced.ensures.succeeded told) (c.write_synced.ensures.plan told) (λ all goes. record { succeeded = all; plan = goes })
