-- payloads of a journal, each with the place of its gate
use Rattle.std.specs.Prelude.{ℕ, ◌-◌, ◌+◌, ◌≤◌, Bool, List, map}
use Rattle.std.specs.List.{All}
use Rattle.journal_moves.specs.declared.extent.Extent.{Extent}
use Rattle.journal_moves.specs.Extents.{bytes_in}

-- a payload, and the place of its gate on the disk
pub record Placed : Type 0 where
  pub gate : ℕ
  pub bytes : List ℕ

-- The payload that is at this extent of a disk. Its gate and its length (1 + 4) are before it.
abbrev pub placed_at : Bool → List ℕ → Extent → Placed
placed_at told read extent = record { gate = extent.at - 5; bytes = bytes_in told read extent }

abbrev pub placed_on : Bool → List ℕ → List Extent → List Placed
placed_on told read extents = map (placed_at told read) extents

-- A payload may be there in a journal that ends at this gate: the header, a gate and a length come before it.
pub record IsWithin (end : ℕ) (extent : Extent) : Type 0 where
  pub after : 17 ≤ extent.at
  pub before : extent.at + extent.len ≤ end

abbrev pub AreWithin : ℕ → List Extent → Type 0
AreWithin end extents = All (IsWithin end) extents
