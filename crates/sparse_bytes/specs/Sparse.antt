-- bytes of which most may be zero, by their size and those that were written
use Rattle.std.specs.Prelude.{ℕ, ◌≡◌, List, length, get_or}
use Rattle.std.specs.Option.{unwrap_or}
use Rattle.std.specs.Ordering.{nat_cmp}
use Rattle.std.specs.BTreeMap.{BTreeMap, get}

-- the byte at a place: zero where none was written
abbrev pub byte_at : BTreeMap ℕ ℕ → ℕ → ℕ
byte_at written place = unwrap_or (get nat_cmp written place) 0

-- The size and the written bytes determine these bytes; after them none is written but zeros.
pub record Tells (size : ℕ) (written : BTreeMap ℕ ℕ) (bytes : List ℕ) : Type 0 where
  pub long : length bytes ≡ size
  pub same : (place : ℕ) → byte_at written place ≡ get_or bytes place 0
