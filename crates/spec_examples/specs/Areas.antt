-- A journal with one start that is rewritten three times, as bytes: where its areas stand, and which of them counts.
use Rattle.std.specs.Prelude.{ℕ, List, [], ◌∷◌, ◌++◌, length, map}
use Rattle.journal_areas.specs.declared.superblock.Slot.{Slot}
use Rattle.journal_areas.specs.declared.superblock.Superblock.{Superblock}
use Rattle.journal_areas.specs.Superblocks.{superblock_bytes}
use Rattle.journal_areas.specs.Sites.{shut_slot}
use Rattle.xt_journal.specs.Reading.{Stands, Damaged}
use Rattle.spec_examples.specs.Journals.{Row, at_first, in_layout, start}

-- an open gate, the record of a first start, and a closed gate
abbrev pub area : List ℕ
area = 0xa5 ∷ 0 ∷ 0 ∷ 0 ∷ 9 ∷ start 1 ++ 0 ∷ []

-- an open slot with this number, of an area of 15 bytes at this place
abbrev pub slot : ℕ → ℕ → Slot
slot number place = record { gate = 0xa5; number = number; place = place; first = 15 }

-- the first start, and a record that begins with its length
abbrev pub start_then : List ℕ → List ℕ
start_then rest = in_layout 1 (0xa5 ∷ 0 ∷ 0 ∷ 0 ∷ 9 ∷ start 1 ++ 0xa5 ∷ rest)

-- the superblock after it, and what follows that
abbrev pub with_slots : Slot → Slot → List ℕ → List ℕ
with_slots one two rest = start_then (0 ∷ 0 ∷ 0 ∷ 51 ∷ superblock_bytes one two ++ rest)

abbrev pub once : List ℕ
once = with_slots (slot 1 83) shut_slot (0 ∷ area)

abbrev pub twice : List ℕ
twice = with_slots (slot 1 83) (slot 2 98) (0 ∷ area ++ area)

abbrev pub thrice : List ℕ
thrice = with_slots (slot 3 83) (slot 2 98) (0 ∷ area ++ area)

abbrev pub lengths : List ℕ
lengths = map length (once ∷ twice ∷ thrice ∷ [])

abbrev pub superblock : Slot → Slot → Superblock
superblock one two = record { gate = 26; one = one; two = two }

-- the first start, and another after the superblock
abbrev pub around : List ℕ
around = with_slots shut_slot shut_slot area

-- what they are read as
abbrev pub rewritten : List Row
rewritten =
    (with_slots shut_slot shut_slot (0 ∷ []), at_first (start 1))
    ∷ (around, Stands (record { gate = 12; bytes = start 1 } ∷ record { gate = 82; bytes = start 1 } ∷ []))
    ∷ (once, Stands (record { gate = 83; bytes = start 1 } ∷ []))
    ∷ (twice, Stands (record { gate = 98; bytes = start 1 } ∷ []))
    ∷ (thrice, Stands (record { gate = 83; bytes = start 1 } ∷ []))
    ∷ []

-- a superblock that can't be there
abbrev pub unsound : List Row
unsound =
    -- an area before the base; one outside; two slots with one number
    (with_slots (slot 1 82) shut_slot (0 ∷ area), Damaged 26)
    ∷ (with_slots (slot 1 98) shut_slot (0 ∷ area), Damaged 26)
    ∷ (with_slots (slot 2 83) (slot 2 98) (0 ∷ area ++ area), Damaged 26)
    -- a payload of its kind with another length
    ∷ (start_then (0 ∷ 0 ∷ 0 ∷ 2 ∷ 8 ∷ 0 ∷ 0 ∷ []), Damaged 26)
    -- a second one
    ∷ (with_slots shut_slot shut_slot (0xa5 ∷ 0 ∷ 0 ∷ 0 ∷ 51 ∷ superblock_bytes shut_slot shut_slot ++ 0 ∷ []), Damaged 82)
    ∷ []
