-- What the bytes of a disk are read as.
use Rattle.std.specs.Prelude.{ℕ, ◌+◌, ◌<◌, ◌≡◌, ◌≢◌, nat_lt, if◌then◌else◌, Option, Some, None, List, [], ◌∷◌, true, length, take, drop, map}
use Rattle.byteorder.specs.Endian.{big_number}
use Rattle.journal_areas.specs.declared.superblock.Slot.{Slot}
use Rattle.journal_areas.specs.declared.superblock.Superblock.{Superblock}
use Rattle.journal_areas.specs.Superblocks.{current}
use Rattle.journal_moves.specs.declared.extent.Extent.{Extent}
use Rattle.xt_journal.specs.Placed.{Placed, placed_on}
use Rattle.xt_journal.specs.Format.{sign, StandsIn, IsDamaged}

abbrev pub payloads_of : List Placed → List (List ℕ)
payloads_of placed = map (λ p. p.bytes) placed

-- the payloads that a disk has at these extents
abbrev pub payloads_on : List ℕ → List Extent → List (List ℕ)
payloads_on read extents = payloads_of (placed_on true read extents)

-- each payload with the place of its gate, where the first gate is at this place
abbrev pub placed_from : ℕ → List (List ℕ) → List Placed
placed_from gate [] = []
placed_from gate (payload ∷ payloads) = record { gate = gate; bytes = payload } ∷ placed_from (gate + (5 + length payload)) payloads

-- a superblock's record of 56 bytes, its gate at this place, comes before the payloads whose gates would be there or after that
abbrev pub past : ℕ → Placed → Placed
past place p = record { gate = if nat_lt p.gate place then p.gate else p.gate + 56; bytes = p.bytes }

abbrev pub placed_by : Superblock → Option Slot → List (List ℕ) → List Placed
placed_by s None payloads = map (past s.gate) (placed_from 12 payloads)
placed_by s (Some slot) payloads = placed_from slot.place payloads

-- Each payload with the place of its gate, in a journal with this superblock or none.
abbrev pub placed_in : Option Superblock → List (List ℕ) → List Placed
placed_in None payloads = placed_from 12 payloads
placed_in (Some s) payloads = placed_by s (current s) payloads

pub data Reading : Type 0 where
  -- the payloads that count, each with the place of its gate
  Stands : List Placed → Reading
  -- another sign: the first 8 bytes
  Foreign : List ℕ → Reading
  -- the sign, but a layout that isn't known
  Unknown : ℕ → Reading
  -- the place of the gate
  Damaged : ℕ → Reading

-- these payloads count, in a journal with this superblock or none, and each has its place
pub record StandsAt (super : Option Superblock) (bytes : List ℕ) (placed : List Placed) : Type 0 where
  pub stands : StandsIn super bytes (payloads_of placed)
  pub places : placed ≡ placed_in super (payloads_of placed)

abbrev pub ReadsAs : List ℕ → Reading → Type 0
ReadsAs bytes (Stands placed) = ∥ ((super : Option Superblock) × StandsAt super bytes placed) ∥₁
ReadsAs bytes (Foreign first) = (13 < length bytes) × (first ≡ take 8 bytes) × (first ≢ sign)
ReadsAs bytes (Unknown version) = (13 < length bytes) × (take 8 bytes ≡ sign) × (version ≡ big_number 4 (drop 8 bytes)) × (version ≢ 1)
ReadsAs bytes (Damaged place) = IsDamaged bytes place

-- the bytes are read so, and in no other way
pub record IsTheReading (bytes : List ℕ) (reading : Reading) : Type 0 where
  pub reads : ReadsAs bytes reading
  pub no_other : (other : Reading) → ReadsAs bytes other → other ≡ reading
