-- properties that are tests
use Rattle.std.specs.Prelude.{ℕ, ◌≡◌, Bool, true}

-- what passes a test under a number
abbrev pub Passes : {A : Type 0} → (ℕ → A → Bool) → ℕ → A → Type 0
Passes test number what = test number what ≡ true
