-- a list of what a function gives, and one more
use Rattle.std.proofs.Common.{◌≡◌, ℕ, zero, suc, ◌+◌, ◌<◌, List, [], ◌∷◌, ◌++◌, length, refl, sym, ap, ◌∙◌, inl, inr, arith, length-append}
use Rattle.std.proofs.lemmas.Bool.{cases_lt}
use Rattle.std.specs.Prelude.{Some, slice_get}
use Rattle.trace_spans.specs.Listed.{IsListOf}

slice_get-last : {B : Type 0} (xs : List B) (y : B) → slice_get (xs ++ y ∷ []) (length xs) ≡ Some y
slice_get-last [] y = refl
slice_get-last (x ∷ xs) y = slice_get-last xs y

slice_get-before : {B : Type 0} (xs : List B) (y : B) (k : ℕ) → k < length xs → slice_get (xs ++ y ∷ []) k ≡ slice_get xs k
slice_get-before [] y k h = absurd (omega arith)
slice_get-before (x ∷ xs) y zero h = refl
slice_get-before (x ∷ xs) y (suc k) h = slice_get-before xs y k (omega arith)

pub listed_none : {B : Type 0} (give : ℕ → B) → IsListOf 0 give []
listed_none give = record { many = refl; each = λ k h. absurd (omega arith) }

pub listed_more :
    {B : Type 0} (n : ℕ) (give : ℕ → B) (xs : List B) (y : B)
    → IsListOf n give xs → y ≡ give n → IsListOf (n + 1) give (xs ++ y ∷ [])
listed_more {B} n give xs y so e = record { many = length-append xs (y ∷ []) ∙ ap (λ (m : ℕ). m + 1) so.many; each = each }
  where
    last : (k : ℕ) → k ≡ n → slice_get (xs ++ y ∷ []) k ≡ Some (give k)
    last k is =
        ap (λ (m : ℕ). slice_get (xs ++ y ∷ []) m) (is ∙ sym so.many)
        ∙ slice_get-last xs y
        ∙ ap Some (e ∙ ap give (sym is))

    each : (k : ℕ) → k < n + 1 → slice_get (xs ++ y ∷ []) k ≡ Some (give k)
    each k h = elim (cases_lt k n) [
      | inl before ↦ slice_get-before xs y k (omega (arith, before, so.many)) ∙ so.each k before
      | inr after ↦ last k (omega (arith, after, h))
    ]
