-- Any two majorities share a member.
use Rattle.std.proofs.Common.{◌≡◌, ℕ, ◌+◌, ◌<◌, List, [], ◌∷◌, length, arith, refl, ◌∙◌, ap}
use Rattle.std.specs.Prelude.{true, false, Bool, count_by, cond}
use Rattle.std.proofs.lemmas.List.Sums.{sum_by-cons}
use Rattle.lease_safety.specs.Legal.{Majority}

abbrev Both : (ℕ → Bool) → (ℕ → Bool) → Type 0
Both p q = (n : ℕ) × (p n ≡ true) × (q n ≡ true)

counted : (p : ℕ → Bool) (m : ℕ) (ms : List ℕ) (a : Bool) → p m ≡ a → count_by p (m ∷ ms) ≡ cond a 1 0 + count_by p ms
counted p m ms a is = sum_by-cons (λ (x : ℕ). cond (p x) 1 0) m ms ∙ ap (λ (b : Bool). cond b 1 0 + count_by p ms) is

both_at : (p q : ℕ → Bool) (m : ℕ) (ms : List ℕ) (a b : Bool) → p m ≡ a → q m ≡ b
    → (length ms < count_by p ms + count_by q ms → Both p q) → length (m ∷ ms) < count_by p (m ∷ ms) + count_by q (m ∷ ms) → Both p q
both_at p q m ms true true is is' rest more = (m, is, is')
both_at p q m ms true false is is' rest more = rest (omega (arith, counted p m ms true is, counted q m ms false is'))
both_at p q m ms false b is is' rest more = rest (less b is')
  where
    less : (b : Bool) → q m ≡ b → length ms < count_by p ms + count_by q ms
    less true is' = omega (arith, counted p m ms false is, counted q m ms true is')
    less false is' = omega (arith, counted p m ms false is, counted q m ms false is')

both_on : (p q : ℕ → Bool) (ms : List ℕ) → length ms < count_by p ms + count_by q ms → Both p q
both_on p q [] more = absurd (omega arith)
both_on p q (m ∷ ms) more = both_at p q m ms (p m) (q m) refl refl (both_on p q ms) more

pub majorities_meet : (members : List ℕ) (P Q : ℕ → Type 0) → Majority members P → Majority members Q → (n : ℕ) × P n × Q n
majorities_meet members P Q a b =
    let both = both_on a.0 b.0 members (omega (arith, a.1, b.1)) in
    (both.0, a.2 both.0 both.1, b.2 both.0 both.2)
