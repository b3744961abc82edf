use Rattle.std.proofs.Common.{◌≡◌, ℕ, List, [], ◌∷◌, Some, sym, ◌∙◌, ap, subst}
use Rattle.disk_model.specs.Disk.{Kept, at_rest}
use Rattle.disk_model.proofs.Moments.{begun, weaker}
use Rattle.xt_base.specs.Overlay.{overlay}
use Rattle.journal_records.specs.Calls.{MayBeTorn}
use Rattle.journal_areas.specs.declared.superblock.Slot.{Slot}
use Rattle.journal_areas.specs.Format.{open_gate}
use Rattle.journal_areas.specs.Areas.{StandsFor}
use Rattle.journal_areas.specs.Sites.{slot_at}
use Rattle.journal_moves.specs.Moves.{Stages, with_shut, MakesCalls, FailsWithin}
use Rattle.journal_moves.proofs.Steps.{rests_in, shut_torn, shut_done}
use Rattle.journal_moves.proofs.Outcomes.{made_none, an_err, shut_none, shut_two}
use Rattle.journal_moves.proofs.parts.shut_slot.Goals as goal

pub returns-then-slot-clause-any_moment : goal.returns-then-slot-clause-any_moment
returns-then-slot-clause-any_moment g c told old payloads place is which =
    let D = g.D.Disk in
    begun D.moment D.left_since c.args.disk.now (λ (image : List ℕ). StandsFor image old)
    (λ image left. rests_in (Some c.args.superblock.now) (D.kept c.args.disk.now) old image is.keeps (g.met.D.Disk.only_now c.args.disk.now image told left))

pub returns-in_err-write_synced-clause-any_moment : goal.returns-in_err-write_synced-clause-any_moment
returns-in_err-write_synced-clause-any_moment g c told old payloads place is which =
    let D = g.D.Disk in
    let s = c.args.superblock.now in
    let second = c.args.second in
    let kept = D.kept c.args.disk.now in
    let opens : (slot_at second s).gate ≡ open_gate = sym (ap (λ (o : Slot). o.gate) c.slot-slot.ensures) ∙ c.if-slot.false in
    weaker D.moment D.left_since c.args.disk.now c.write_synced.new.disk (MayBeTorn c.slot_place.result (0 ∷ []) kept.read) (λ (image : List ℕ). StandsFor image old)
    (c.write_synced.ensures.any_moment told is.keeps.rests)
    (λ image torn. shut_torn s kept old place payloads is second which opens image (subst (λ (n : ℕ). MayBeTorn n (0 ∷ []) kept.read image) c.slot_place.ensures torn))

pub returns-clause-done : goal.returns-clause-done
returns-clause-done g c told old payloads place is which =
    let D = g.D.Disk in
    let s = c.args.superblock.now in
    let second = c.args.second in
    let kept = D.kept c.args.disk.now in
    let opens : (slot_at second s).gate ≡ open_gate = sym (ap (λ (o : Slot). o.gate) c.slot-slot.ensures) ∙ c.if-slot.false in
    let at = c.in_ok-write_synced.ensures.done told is.keeps.rests ∙ ap (λ (n : ℕ). at_rest (overlay kept.read n (0 ∷ []))) c.slot_place.ensures in
    subst (λ (k : Kept). Stages (with_shut second s) k old place payloads) (sym at) (shut_done s kept old place payloads is second which opens)

pub returns-clause-any_moment : goal.returns-clause-any_moment
returns-clause-any_moment g c told old payloads place is which =
    let D = g.D.Disk in
    let s = c.args.superblock.now in
    let second = c.args.second in
    let kept = D.kept c.args.disk.now in
    let opens : (slot_at second s).gate ≡ open_gate = sym (ap (λ (o : Slot). o.gate) c.slot-slot.ensures) ∙ c.if-slot.false in
    weaker D.moment D.left_since c.args.disk.now c.write_synced.new.disk (MayBeTorn c.slot_place.result (0 ∷ []) kept.read) (λ (image : List ℕ). StandsFor image old)
    (c.write_synced.ensures.any_moment told is.keeps.rests)
    (λ image torn. shut_torn s kept old place payloads is second which opens image (subst (λ (n : ℕ). MayBeTorn n (0 ∷ []) kept.read image) c.slot_place.ensures torn))

pub returns-then-slot-clause-made : goal.returns-then-slot-clause-made
returns-then-slot-clause-made g c told =
    let D = g.D.Disk in
    let shut = λ (opens : (slot_at c.args.second c.args.superblock.now).gate ≡ open_gate). c.if-slot.true (ap (λ (o : Slot). o.gate) c.slot-slot.ensures ∙ opens) in
    subst (λ (n : ℕ). MakesCalls n (D.fails c.args.disk.now) (D.fails c.args.disk.now)) (shut_none (slot_at c.args.second c.args.superblock.now).gate shut) (made_none (D.fails c.args.disk.now))

pub returns-in_err-write_synced-clause-failed : goal.returns-in_err-write_synced-clause-failed
returns-in_err-write_synced-clause-failed g c told =
    let D = g.D.Disk in
    let opens : (slot_at c.args.second c.args.superblock.now).gate ≡ open_gate = sym (ap (λ (o : Slot). o.gate) c.slot-slot.ensures) ∙ c.if-slot.false in
    an_err c.from_residual.result (subst (λ (n : ℕ). FailsWithin n (D.fails c.args.disk.now)) (shut_two (slot_at c.args.second c.args.superblock.now).gate opens)
    (c.in_err-write_synced.ensures.failed told))

pub returns-clause-made : goal.returns-clause-made
returns-clause-made g c told =
    let D = g.D.Disk in
    let opens : (slot_at c.args.second c.args.superblock.now).gate ≡ open_gate = sym (ap (λ (o : Slot). o.gate) c.slot-slot.ensures) ∙ c.if-slot.false in
    let made : MakesCalls 2 (D.fails c.args.disk.now) (D.fails c.write_synced.new.disk) =
    record { succeeded = c.in_ok-write_synced.ensures.succeeded told; plan = c.in_ok-write_synced.ensures.plan told } in
    subst (λ (n : ℕ). MakesCalls n (D.fails c.args.disk.now) (D.fails c.write_synced.new.disk)) (shut_two (slot_at c.args.second c.args.superblock.now).gate opens) made
