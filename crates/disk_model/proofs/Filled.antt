-- The bytes of a stop in place of what isn't synced.
use Rattle.std.proofs.Common.{◌≡◌, ◌⊎◌, inl, inr, ⊎_elim, ℕ, ◌<◌, ◌≤◌, true, false, List, length, get_or, ◌∙◌, arith}
use Rattle.std.specs.List.{list_any}
use Rattle.std.proofs.lemmas.Bool.{and_parts, and_cases, not-true, not-false, ltb-true, ltb-false}
use Rattle.disk_model.specs.Disk.{Kept, IsImage, IsFilled, is_inside, reach}

pub filled_is_image : (fill : ℕ) (kept : Kept) (image : List ℕ) → IsFilled fill kept image → IsImage kept image
filled_is_image fill kept image filled = record {
  no_shorter = omega (arith, filled.size);
  no_longer = omega (arith, filled.size);
  same = filled.same;
}

pub is_filled : (fill : ℕ) (kept : Kept) (image : List ℕ) → IsImage kept kept.read → length kept.read ≡ reach kept → length image ≡ length kept.read
    → ((k : ℕ) → k < length kept.read → (length kept.synced ≤ k) ⊎ (list_any (is_inside k) kept.written ≡ true) → get_or image k 0 ≡ fill)
    → ((k : ℕ) → k < length kept.synced → list_any (is_inside k) kept.written ≡ false → get_or image k 0 ≡ get_or kept.read k 0)
    → IsFilled fill kept image
is_filled fill kept image read far size filled same = record {
  size = size ∙ far;
  same = λ k synced.
      let parts = and_parts _ _ synced in
      same k (ltb-true k (length kept.synced) parts.0) (not-true _ parts.1) ∙ read.same k synced;
  filled = λ k inside unsynced.
      filled k (omega (arith, inside, far)) (⊎_elim (λ past. inl (ltb-false k (length kept.synced) past)) (λ written. inr (not-false _ written)) (and_cases _ _ unsynced));
}
