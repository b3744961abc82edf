-- What a superblock says.
use Rattle.std.specs.Prelude.{ℕ, ◌+◌, ◌<◌, ◌≤◌, ◌≡◌, ◌≢◌, ◌==◌, ◌&&◌, nat_lt, if◌then◌else◌, Option, Some, None, List, ◌∷◌, ◌++◌, drop, slice_index}
use Rattle.byteorder.specs.Endian.{big_bytes, big_number}
use Rattle.journal_areas.specs.Format.{open_gate, superblock_kind}
use Rattle.journal_areas.specs.declared.superblock.Slot.{Slot}
use Rattle.journal_areas.specs.declared.superblock.Superblock.{Superblock}

-- how long its payload is: its kind, and two slots of 25 bytes
abbrev pub superblock_size : ℕ
superblock_size = 51

-- a gate, and three numbers of 64 bits, the first byte the highest
abbrev pub slot_in : List ℕ → Slot
slot_in bytes = record {
  gate = slice_index bytes 0;
  number = big_number 8 (drop 1 bytes);
  place = big_number 8 (drop 9 bytes);
  first = big_number 8 (drop 17 bytes);
}

-- the superblock that a payload says, whose record's gate is at this place
abbrev pub superblock_in : ℕ → List ℕ → Superblock
superblock_in gate payload = record { gate = gate; one = slot_in (drop 1 payload); two = slot_in (drop 26 payload) }

-- the bytes of a slot after its gate
abbrev pub number_bytes : Slot → List ℕ
number_bytes s = big_bytes 8 s.number ++ (big_bytes 8 s.place ++ big_bytes 8 s.first)

abbrev pub slot_bytes : Slot → List ℕ
slot_bytes s = s.gate ∷ number_bytes s

abbrev pub superblock_bytes : Slot → Slot → List ℕ
superblock_bytes one two = superblock_kind ∷ (slot_bytes one ++ slot_bytes two)

-- the place after the gate that follows its record: no other area begins before it
abbrev pub base_of : Superblock → ℕ
base_of s = s.gate + 57

abbrev pub IsOpen : Slot → Type 0
IsOpen slot = slot.gate ≡ open_gate

-- the slot that counts: the open one, of two open ones that with the greater number
abbrev pub current : Superblock → Option Slot
current s =
    if s.one.gate == open_gate
    then (if (s.two.gate == open_gate) && nat_lt s.one.number s.two.number then Some s.two else Some s.one)
    else (if s.two.gate == open_gate then Some s.two else None)

-- an area may begin there, in a journal of so many bytes
abbrev pub IsSite : Superblock → ℕ → Slot → Type 0
IsSite s size slot = (base_of s ≤ slot.place) × (slot.place < size)

-- What it says can be, in a journal of so many bytes: the areas of its open slots may begin there, and two open ones have two numbers.
pub record IsSound (size : ℕ) (s : Superblock) : Type 0 where
  pub one : IsOpen s.one → IsSite s size s.one
  pub two : IsOpen s.two → IsSite s size s.two
  pub differ : IsOpen s.one → IsOpen s.two → s.one.number ≢ s.two.number
