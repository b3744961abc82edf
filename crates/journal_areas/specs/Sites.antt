-- Where the areas of a journal are, and where a new one goes.
use Rattle.std.specs.Prelude.{ℕ, ◌+◌, ◌-◌, ◌==◌, ◌&&◌, nat_le, nat_lt, not, Bool, false, if◌then◌else◌, Option, Some, None, List, length}
use Rattle.journal_areas.specs.declared.superblock.Slot.{Slot}
use Rattle.journal_areas.specs.declared.superblock.Superblock.{Superblock}
use Rattle.journal_areas.specs.declared.site.Area.{Area}
use Rattle.journal_areas.specs.Format.{open_gate, records}
use Rattle.journal_areas.specs.Superblocks.{base_of, current}

-- the current area of a journal that ends at this gate
abbrev pub area_by : ℕ → Option Slot → Area
area_by end None = record { place = 12; length = end + 1 - 12; first = 0 }
area_by end (Some slot) = record { place = slot.place; length = end + 1 - slot.place; first = slot.first }

abbrev pub slot_of : Option Superblock → Option Slot
slot_of None = None
slot_of (Some s) = current s

abbrev pub area_of : Option Superblock → ℕ → Area
area_of super end = area_by end (slot_of super)

-- how long an area of these payloads is
abbrev pub area_size : List (List ℕ) → ℕ
area_size payloads = length (records payloads) + 1

-- the number of the next area
abbrev pub number_after : Option Slot → ℕ
number_after None = 1
number_after (Some slot) = slot.number + 1

-- whether an area of this size ends, from the base on, before the current one
abbrev pub fits_below : ℕ → Option Slot → ℕ → Bool
fits_below base None size = false
fits_below base (Some slot) size = nat_le (base + size) slot.place

-- where an area of this size goes: to the base, where it ends there before the current one, else after the current one's last gate. A
-- journal without a superblock gets one first, at its end.
abbrev pub site : Option Superblock → ℕ → ℕ → ℕ
site None end size = end + 57
site (Some s) end size = if fits_below (base_of s) (current s) size then base_of s else end + 1

-- which slot it gets: the one that doesn't count, the first where none does
abbrev pub is_second : Superblock → Bool
is_second s = (s.one.gate == open_gate) && not ((s.two.gate == open_gate) && nat_lt s.one.number s.two.number)

-- the superblock with other bytes in its second slot, or in its first
abbrev pub put : Bool → Superblock → Slot → Superblock
put second s slot = if second then record s { two = slot } else record s { one = slot }

-- what is in that slot
abbrev pub slot_at : Bool → Superblock → Slot
slot_at second s = if second then s.two else s.one

-- the place of that slot's gate, where the superblock's record has its gate at this place
abbrev pub slot_place : Bool → ℕ → ℕ
slot_place second gate = gate + (if second then 31 else 6)

-- the superblock with this in the slot that doesn't count
abbrev pub with_slot : Superblock → Slot → Superblock
with_slot s slot = put (is_second s) s slot

abbrev pub shut_slot : Slot
shut_slot = record { gate = 0; number = 0; place = 0; first = 0 }

-- the superblock that a journal has or gets at this end
abbrev pub superblock_at : Option Superblock → ℕ → Superblock
superblock_at None end = record { gate = end; one = shut_slot; two = shut_slot }
superblock_at (Some s) end = s

-- what the slot of a new area of this size says
abbrev pub new_slot : Option Superblock → ℕ → ℕ → Slot
new_slot super end size = record { gate = open_gate; number = number_after (slot_of super); place = site super end size; first = size }

-- the journal's superblock once it has moved to a new area of this size
abbrev pub moved : Option Superblock → ℕ → ℕ → Superblock
moved super end size = with_slot (superblock_at super end) (new_slot super end size)

-- how many bytes that needs
abbrev pub need_for : Option Superblock → ℕ → ℕ → ℕ
need_for super end size = site super end size + size

-- the area that counts once it has moved
abbrev pub new_area_of : Option Superblock → ℕ → ℕ → Area
new_area_of super end size = record { place = site super end size; length = size; first = size }
