-- a list of what a function gives
use Rattle.std.specs.Prelude.{ℕ, ◌≡◌, ◌<◌, Some, List, length, slice_get}

-- The list has what the function gives at each number below this one, in order.
pub record IsListOf {B : Type 0} (count : ℕ) (give : ℕ → B) (list : List B) : Type 0 where
  pub many : length list ≡ count
  pub each : (k : ℕ) → k < count → slice_get list k ≡ Some (give k)
