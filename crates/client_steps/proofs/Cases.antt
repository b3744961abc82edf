-- small laws that the walks share
use Rattle.std.proofs.Common.{◌≡◌, ℕ, ◌<◌, ◌^◌, Bool, true, false, if◌then◌else◌, refl, arith}
use Rattle.std.specs.Prelude.{◌==◌, ◌&&◌, nat_lt}
use Rattle.std.proofs.lemmas.Bool.Decides.{nat_tests}
use Rattle.xt_base.specs.declared.TheConstants.{COUNTS}

-- whichever of the two it is
pub either : {A : Type 0} (P : A → Type 0) (here : Bool) (x y : A) → P x → P y → P (if here then x else y)
either P true x y first second = first
either P false x y first second = second

-- a property of the one that is taken, where each has it in its case
pub when : {A : Type 0} (P : A → Type 0) (here : Bool) (x y : A) → (here ≡ true → P x) → (here ≡ false → P y) → P (if here then x else y)
when P true x y taken other = taken refl
when P false x y taken other = other refl

-- a test that begins by comparing two numbers shows that they are equal
pub same_number : (a b : ℕ) (more : Bool) → (a == b && more) ≡ true → a ≡ b
same_number a b more passed = grind (arith, nat_tests)

-- a number is left
pub is_left : (n : ℕ) → nat_lt n COUNTS ≡ true → n < 2 ^ 62
is_left n less = grind (arith, nat_tests)
