-- shapes over shapes
use Rattle.std.proofs.Common.{◌≡◌, ℕ, ◌+◌, ◌<◌, ◌≤◌, subst, inl, inr, arith, List, [], ◌∷◌, ◌++◌, refl, sym, ap, ◌∙◌, append_assoc, append-nil}
use Rattle.trace_shapes.specs.declared.shape.Shape.{Shape}
use Rattle.std.proofs.lemmas.Bool.{cases_lt}
use Rattle.trace_drawing.specs.Drawn.{Extends, Has, numeral, middle_of, height_at, AreNumbered}

pub same : (a : List Shape) → Extends a a
same a = record { more = []; is = sym (append-nil a) }

pub one : (a b : List Shape) (s : Shape) → b ≡ a ++ s ∷ [] → Extends a b
one a b s is = record { more = s ∷ []; is = is }

pub again : (a b c : List Shape) → Extends a b → Extends b c → Extends a c
again a b c first second = record {
  more = first.more ++ second.more;
  is = second.is ∙ ap (λ (shapes : List Shape). shapes ++ second.more) first.is ∙ append_assoc a first.more second.more;
}

-- a shape that was drawn last, and one that was drawn before
newest : (a b : List Shape) (s : Shape) → Extends (a ++ s ∷ []) b → Has b s
newest a b s over = record { under = a; over = over.more; is = over.is ∙ append_assoc a (s ∷ []) over.more }

kept : (a b : List Shape) (s : Shape) → Has a s → Extends a b → Has b s
kept a b s has over = record {
  under = has.under;
  over = has.over ++ over.more;
  is = over.is ∙ ap (λ (shapes : List Shape). shapes ++ over.more) has.is ∙ append_assoc has.under (s ∷ has.over) over.more;
}

module _ (heights edges : List ℕ) (bottom at : ℕ) (old new : List Shape) where
  -- the next entry has its number
  pub numbered :
      AreNumbered heights edges bottom at old
      → Extends (old ++ numeral (middle_of edges bottom at) (at + 1) ∷ []) new → AreNumbered heights edges bottom (at + 1) new
  numbered before over k h shown = elim (cases_lt k at) [
    | inl less ↦ kept old new _ (before k less shown) (again old _ new (one old _ _ refl) over)
    | inr more ↦ at_last k (omega (arith, h, more))
  ]
    where
      at_last : (k : ℕ) → k ≡ at → Has new (numeral (middle_of edges bottom k) (k + 1))
      at_last k is = subst (λ (m : ℕ). Has new (numeral (middle_of edges bottom m) (m + 1))) (sym is) (newest old new _ over)

  -- the next entry has no row
  pub unnumbered : AreNumbered heights edges bottom at old → height_at heights at ≡ 0 → AreNumbered heights edges bottom (at + 1) old
  unnumbered before none k h shown = elim (cases_lt k at) [
    | inl less ↦ before k less shown
    | inr more ↦ absurd (hidden k (omega (arith, h, more)) shown)
  ]
    where
      hidden : (k : ℕ) → k ≡ at → 0 < height_at heights k → ⊥
      hidden k is shown = let zero : height_at heights k ≡ 0 = ap (height_at heights) is ∙ none in omega (arith, zero, shown)
