-- what one row more does to the map of places
use Rattle.std.proofs.Common.{◌≡◌, ◌==◌, ℕ, List, [], ◌∷◌, ◌++◌, refl, arith, Some, None, cond, ◌⊎◌, inl, inr}
use Rattle.std.proofs.lemmas.Bool.{cases_eq}
use Rattle.std.specs.Ordering.{nat_cmp}
use Rattle.std.specs.BTreeMap.{is_at}
use Rattle.std.proofs.lemmas.Grind.{common_steps}
use Rattle.std.specs.Prelude.{if◌then◌else◌}
use Rattle.world_spec.specs.declared.PlacedFile.{PlacedFile}
use Rattle.world_spec.specs.World.{file_in}

pub file_in_push : (files : List PlacedFile) (f : PlacedFile) (number : ℕ) → file_in files f.file.number ≡ None
    → file_in (files ++ f ∷ []) number ≡ (if f.file.number == number then Some f else file_in files number)
unfolding file_in
file_in_push [] f number none = refl
file_in_push (x ∷ files) f number none = grind (arith, common_steps, file_in_push files f number)

-- a key is the map's where the numbers are equal
pub key_is : {X : Type 0} (k q : ℕ) (x y : X) → cond (is_at (nat_cmp k) q) x y ≡ (if k == q then x else y)
key_is k q x y = key_cases k q x y (cases_eq k q)
  where
    key_cases : {X : Type 0} (k q : ℕ) (x y : X) → (k ≡ q) ⊎ (k ≡ q → ⊥)
        → cond (is_at (nat_cmp k) q) x y ≡ (if k == q then x else y)
    key_cases k q x y (inl same) = grind (arith, common_steps)
    key_cases k q x y (inr other) = grind (arith, common_steps)
