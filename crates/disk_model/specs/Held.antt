-- The bytes that a disk in memory holds.
use Rattle.std.specs.Prelude.{ℕ, List}

-- those that it was made with, those that a read gives, and where a write has to end at the latest
pub record Held : Type 0 where
  pub first : List ℕ
  pub read : List ℕ
  pub reserved : ℕ
