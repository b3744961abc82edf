-- Functions changed at one place, and lists that grow by one.
use Rattle.std.proofs.Common.{◌≡◌, ℕ, arith, List, ◌∷◌, inl, inr, sym, subst}
use Rattle.std.proofs.lemmas.Bool.Decides.{nat_tests}
use Rattle.std.specs.Prelude.{◌≢◌, ◌⊎◌}
use Rattle.lease_safety.specs.State.{Has, put}

pub put-same : {A : Type 0} (f : ℕ → A) (n m : ℕ) (v : A) → m ≡ n → put f n v m ≡ v
put-same f n m v e = grind (arith, nat_tests)

pub put-other : {A : Type 0} (f : ℕ → A) (n m : ℕ) (v : A) → m ≢ n → put f n v m ≡ f m
put-other f n m v e = grind (arith, nat_tests)

pub same_or_other : (m n : ℕ) → (m ≡ n) ⊎ (m ≢ n)
same_or_other m n = grind arith

-- What holds of the new entry and of the old ones holds of all.
pub each : {A : Type 0} (P : A → Type 0) (x : A) (xs : List A) → P x → ((y : A) → Has y xs → P y) → (y : A) → Has y (x ∷ xs) → P y
each P x xs here there y (inl e) = subst P (sym e) here
each P x xs here there y (inr h) = there y h

-- The same of each two.
pub each_two : {A : Type 0} (P : A → A → Type 0) (x : A) (xs : List A) → P x x → ((y : A) → Has y xs → P x y) → ((y : A) → Has y xs → P y x)
    → ((y z : A) → Has y xs → Has z xs → P y z) → (y z : A) → Has y (x ∷ xs) → Has z (x ∷ xs) → P y z
each_two P x xs itself first second there y z (inl e) (inl f) = subst (λ w. P y w) (sym f) (subst (λ w. P w x) (sym e) itself)
each_two P x xs itself first second there y z (inl e) (inr h) = subst (λ w. P w z) (sym e) (first z h)
each_two P x xs itself first second there y z (inr h) (inl f) = subst (λ w. P y w) (sym f) (second y h)
each_two P x xs itself first second there y z (inr h) (inr i) = there y z h i
