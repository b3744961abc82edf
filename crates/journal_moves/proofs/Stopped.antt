-- A move that breaks: the call that failed, and what it leaves.
use Rattle.std.proofs.Common.{◌≡◌, ◌≢◌, ⊎_elim, ℕ, ◌+◌, ◌<◌, ◌≤◌, ◌==◌, ◌&&◌, nat_le, if◌then◌else◌, Bool, true, false, List, [], ◌∷◌, get_or, sym, ◌∙◌, ap, subst, arith}
use Rattle.std.specs.List.{list_any}
use Rattle.std.proofs.lemmas.Bool.{cases_lt, cond-true, cond-false, eq-eqb, ne_eqb, and_from, and_left, and_right, le-leb, lt-leb, lt-ltb, not_from_true, or_left}
use Rattle.disk_model.specs.Disk.{Kept, IsImage, IsFilled, at_rest, after_write, range_of, is_inside, is_synced, reach, greatest_end}
use Rattle.disk_model.proofs.Filled.{filled_is_image}
use Rattle.disk_model.proofs.Images.{same_images}
use Rattle.journal_records.specs.Calls.{MayBeTorn, IsTornAt}
use Rattle.journal_areas.specs.Format.{open_gate}
use Rattle.journal_areas.specs.Areas.{StandsFor}
use Rattle.journal_moves.specs.Moves.{MakesCalls, FailsWithin, IsMoveStopped, payloads_after_move}
use Rattle.journal_moves.proofs.Outcomes.{first_then, first_same}

-- ---- a write that is torn

-- the images of a disk on which a write of this piece is torn
pub torn_image : (at : ℕ) (piece bytes : List ℕ) (left : Kept) (image : List ℕ) → IsTornAt at piece bytes left → IsImage left image → MayBeTorn at piece bytes image
torn_image at piece bytes left image torn is = same_images left (after_write at piece (at_rest bytes)) image torn.synced torn.written is

-- a gate that was being written or synced has the byte of all that isn't synced
pub gate_filled : (at gate : ℕ) (bytes : List ℕ) (left : Kept) (fill : ℕ) (image : List ℕ) → IsTornAt at (gate ∷ []) bytes left → IsFilled fill left image → get_or image at 0 ≡ fill
gate_filled at gate bytes left fill image torn filled = filled.filled at (omega (arith, far)) unsynced
  where
    far : at + 1 ≤ reach left
    far = omega (arith, ap greatest_end torn.written)

    unsynced : is_synced left at ≡ false
    unsynced =
        let in_range : is_inside at (range_of at (gate ∷ [])) ≡ true = and_from _ _ (le-leb at at (omega arith)) (lt-ltb at (at + 1) (omega arith)) in
        and_right _ _ (not_from_true _ (ap (list_any (is_inside at)) torn.written ∙ or_left _ _ in_range))

-- ---- which payloads count

early_is : (calls call fill : ℕ) (old payloads : List (List ℕ)) → call + 1 < calls → payloads_after_move calls call fill old payloads ≡ old
early_is calls call fill old payloads early = cond-false _ _ _ (and_left _ _ (lt-leb calls (call + 1) early))

pub open_is : (calls call fill : ℕ) (old payloads : List (List ℕ)) → calls ≤ call + 1 → fill ≡ open_gate → payloads_after_move calls call fill old payloads ≡ payloads
open_is calls call fill old payloads late opens = cond-true _ _ _ (and_from _ _ (le-leb calls (call + 1) late) (eq-eqb fill open_gate opens))

pub shut_is : (calls call fill : ℕ) (old payloads : List (List ℕ)) → fill ≢ open_gate → payloads_after_move calls call fill old payloads ≡ old
shut_is calls call fill old payloads shut = cond-false _ _ _ (and_right _ _ (ne_eqb fill open_gate shut))

-- after as many calls more
same_late : (n m call : ℕ) → nat_le m (call + 1) ≡ nat_le (n + m) (n + call + 1)
same_late n m call =
    ⊎_elim
    (λ early. lt-leb m (call + 1) early ∙ sym (lt-leb (n + m) (n + call + 1) (omega (arith, early))))
    (λ late. le-leb m (call + 1) late ∙ sym (le-leb (n + m) (n + call + 1) (omega (arith, late))))
    (cases_lt (call + 1) m)

-- ---- a move that is stopped

-- before the last two calls, where each crash leaves the old payloads
pub stopped_early : (fails : ℕ → ℕ → Bool) (kept : Kept) (n calls : ℕ) (old payloads : List (List ℕ)) → n + 2 ≤ calls → FailsWithin n fails
    → ((image : List ℕ) → IsImage kept image → StandsFor image old) → IsMoveStopped calls fails kept old payloads
stopped_early fails kept n calls old payloads before failed leaves = record {
  call = failed.0;
  some = failed.1;
  within = omega (arith, before, failed.2);
  first = failed.3;
  image = λ fill bytes filled.
      subst (StandsFor bytes) (sym (early_is calls failed.0 fill old payloads (omega (arith, before, failed.2)))) (leaves bytes (filled_is_image fill kept bytes filled));
}

-- once as many calls were made
pub stopped_then : (a b : ℕ → ℕ → Bool) (kept : Kept) (n m : ℕ) (old payloads : List (List ℕ)) → MakesCalls n a b → IsMoveStopped m b kept old payloads
    → IsMoveStopped (n + m) a kept old payloads
stopped_then a b kept n m old payloads made stopped = record {
  call = n + stopped.call;
  some = omega (arith, stopped.some);
  within = omega (arith, stopped.within);
  first = first_then a b n made stopped.call stopped.first;
  image = λ fill bytes filled.
      subst (λ (late : Bool). StandsFor bytes (if late && (fill == open_gate) then payloads else old)) (same_late n m stopped.call) (stopped.image fill bytes filled);
}

-- the same calls are to fail
pub stopped_same : (a b : ℕ → ℕ → Bool) (kept : Kept) (calls : ℕ) (old payloads : List (List ℕ)) → ((l c : ℕ) → b l c ≡ a l c) → IsMoveStopped calls b kept old payloads
    → IsMoveStopped calls a kept old payloads
stopped_same a b kept calls old payloads is stopped = record {
  call = stopped.call;
  some = stopped.some;
  within = stopped.within;
  first = first_same a b is stopped.call stopped.first;
  image = stopped.image;
}
