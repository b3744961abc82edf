-- What a parser answers of bytes.
use Rattle.std.specs.Prelude.{ℕ, ◌<◌, ◌≡◌, Bool, true, false, List, ◌∷◌, ◌++◌, length, drop, Option, None, Some, Result, Ok, Err}
use Rattle.journal_records.specs.Records.{IsClosed}
use Rattle.journal_areas.specs.declared.superblock.Superblock.{Superblock}
use Rattle.journal_moves.specs.declared.extent.Extent.{Extent}
use Rattle.xt_journal.specs.declared.format.Found.{Found}
use Rattle.xt_journal.specs.declared.format.Trouble.{Trouble}
use Rattle.xt_journal.specs.declared.format.Trouble.TheVariants as trouble
use Rattle.xt_journal.specs.Format.{open_gate, record_of, Reached, end_in}
use Rattle.xt_journal.specs.Placed.{Placed, placed_on}
use Rattle.xt_journal.specs.Reading.{Reading, ReadsAs, Stands, Foreign, Unknown, Damaged, placed_in}

-- the reading is the one of these bytes
abbrev pub Gives : List ℕ → Result Found Trouble → Type 0
Gives bytes (Ok found) = ReadsAs bytes (Stands (placed_on true bytes found.extents.items))
Gives bytes (Err (trouble.NotOurs first)) = ReadsAs bytes (Foreign first)
Gives bytes (Err (trouble.Layout version)) = ReadsAs bytes (Unknown version)
Gives bytes (Err (trouble.Damaged place)) = ReadsAs bytes (Damaged place)
Gives bytes (Err trouble.DiskFault) = Unit {0}
Gives bytes (Err trouble.OutOfMemory) = Unit {0}

-- the record of a payload is in the bytes after its gate
pub record IsAt (bytes : List ℕ) (p : Placed) : Type 0 where
  pub front : List ℕ
  pub later : List ℕ
  pub are : bytes ≡ front ++ open_gate ∷ (record_of p.bytes ++ later)
  pub place : length front ≡ p.gate
  pub fits : length p.bytes < 4294967296

-- Reading has come so far: to this gate, past this superblock or none, and the payloads that count so far are at these extents.
pub record IsRead (bytes : List ℕ) (super : Option Superblock) (end : ℕ) (extents : List Extent) : Type 0 where
  pub payloads : List (List ℕ)
  pub reached : Reached super bytes payloads (drop end bytes)
  pub is_end : end ≡ end_in super payloads
  pub places : placed_on true bytes extents ≡ placed_in super payloads

-- and reading ends there
pub record IsReadWhole (bytes : List ℕ) (found : Found) : Type 0 where
  pub read : IsRead bytes found.superblock found.end found.extents.items
  pub closed : IsClosed (drop found.end bytes)

abbrev pub Finds : List ℕ → Result Found Trouble → Type 0
Finds bytes (Ok found) = IsReadWhole bytes found
Finds bytes (Err (trouble.NotOurs first)) = ReadsAs bytes (Foreign first)
Finds bytes (Err (trouble.Layout version)) = ReadsAs bytes (Unknown version)
Finds bytes (Err (trouble.Damaged place)) = ReadsAs bytes (Damaged place)
Finds bytes (Err trouble.DiskFault) = Unit {0}
Finds bytes (Err trouble.OutOfMemory) = Unit {0}

-- the disk has failed
abbrev pub is_fault : {T : Type 0} → Result T Trouble → Bool
is_fault (Err trouble.DiskFault) = true
is_fault (Err (trouble.NotOurs first)) = false
is_fault (Err (trouble.Layout version)) = false
is_fault (Err (trouble.Damaged place)) = false
is_fault (Err trouble.OutOfMemory) = false
is_fault (Ok value) = false

-- what the bytes were read as, unless the disk failed or memory ran out
abbrev pub reading_found : List ℕ → Result Found Trouble → Option Reading
reading_found bytes (Ok found) = Some (Stands (placed_on true bytes found.extents.items))
reading_found bytes (Err (trouble.NotOurs first)) = Some (Foreign first)
reading_found bytes (Err (trouble.Layout version)) = Some (Unknown version)
reading_found bytes (Err (trouble.Damaged place)) = Some (Damaged place)
reading_found bytes (Err trouble.DiskFault) = None
reading_found bytes (Err trouble.OutOfMemory) = None
