-- What the parts of a move to a new area do to a disk.
use Rattle.std.specs.Prelude.{ℕ, ◌+◌, ◌<◌, ◌^◌, ◌≤◌, ◌≡◌, ◌⊎◌, ◌==◌, ◌&&◌, nat_le, Bool, true, if◌then◌else◌, Option, Some, None, List, ◌∷◌, ◌++◌, drop}
use Rattle.std.specs.List.{All}
use Rattle.disk_model.specs.Disk.{Kept, IsFilled}
use Rattle.journal_records.specs.Calls.{GoesOn, AllSucceed, IsFirstFailure}
use Rattle.journal_areas.specs.declared.superblock.Slot.{Slot}
use Rattle.journal_areas.specs.declared.superblock.Superblock.{Superblock}
use Rattle.journal_areas.specs.Format.{open_gate, records, AreGiven}
use Rattle.journal_areas.specs.Superblocks.{base_of, current, number_bytes}
use Rattle.journal_areas.specs.Areas.{StandsFor, end_in}
use Rattle.journal_areas.specs.Sites.{area_of, site, superblock_at, is_second, slot_at, put, number_after, area_size}
use Rattle.journal_areas.specs.Kept.{KeepsIn}
use Rattle.journal_moves.specs.declared.gathered.Gathered.{Gathered}
use Rattle.journal_moves.specs.Gathering.{IsThere, area_calls, gathered}

-- a crash leaves the one list or the other
abbrev pub IsEither : List (List ℕ) → List (List ℕ) → List ℕ → Type 0
IsEither old payloads image = StandsFor image old ⊎ StandsFor image payloads

-- the journal of these payloads, with this superblock or none, ends at this gate
pub record IsAt (super : Option Superblock) (kept : Kept) (end : ℕ) (old : List (List ℕ)) : Type 0 where
  pub keeps : KeepsIn super kept old
  pub ends : end ≡ end_in super old

-- where it ends once it has a superblock
abbrev pub end_ready : Option Superblock → ℕ → ℕ
end_ready None end = end + 56
end_ready (Some s) end = end

-- An area of these payloads goes to this place, and they are these lists of bytes.
pub record IsNewArea (s : Superblock) (kept : Kept) (old : List (List ℕ)) (place : ℕ) (payloads : List Gathered) (lists : List (List ℕ)) : Type 0 where
  pub end : ℕ
  pub is_at : IsAt (Some s) kept end old
  pub given : AreGiven lists
  pub goes : place ≡ site (Some s) end (area_size lists)
  pub there : All (IsThere kept.read (area_of (Some s) end)) payloads
  pub are : lists ≡ gathered true kept.read payloads

-- The journal is still the old one, and an area of these payloads stands at this place, where nothing counts so far.
pub record Stages (s : Superblock) (kept : Kept) (old : List (List ℕ)) (place : ℕ) (payloads : List (List ℕ)) : Type 0 where
  pub keeps : KeepsIn (Some s) kept old
  pub given : AreGiven payloads
  pub far : base_of s ≤ place
  pub more : List ℕ
  pub there : drop place kept.read ≡ records payloads ++ 0 ∷ more

-- a gate that isn't open: this one, if it isn't
abbrev pub shut_gate : ℕ → ℕ
shut_gate gate = if gate == open_gate then 0 else gate

-- the superblock with one of its slots shut
abbrev pub with_shut : Bool → Superblock → Superblock
with_shut second s = put second s (record (slot_at second s) { gate = shut_gate (slot_at second s).gate })

-- and with the numbers of another one in that slot
abbrev pub numbered : Bool → Superblock → Slot → Superblock
numbered second s slot = put second s (record slot { gate = shut_gate (slot_at second s).gate })

-- its numbers are of 64 bits
pub record Fits (slot : Slot) : Type 0 where
  pub number : slot.number < 2 ^ 64
  pub place : slot.place < 2 ^ 64
  pub first : slot.first < 2 ^ 64

-- this slot is the next one to count, of an area at its place
pub record IsNextSlot (s : Superblock) (slot : Slot) (place : ℕ) : Type 0 where
  pub number : slot.number ≡ number_after (current s)
  pub place_is : slot.place ≡ place

-- A journal is to move to a new area of these payloads, which are these lists of bytes: what is written in each part.
pub record IsMove (super : Option Superblock) (kept : Kept) (end : ℕ) (old : List (List ℕ)) (slot : Slot) (payloads : List Gathered) (numbers : List ℕ) (lists : List (List ℕ)) : Type 0 where
  pub is_at : IsAt super kept end old
  pub given : AreGiven lists
  pub opens : slot.gate ≡ open_gate
  pub number : slot.number ≡ number_after (current (superblock_at super end))
  pub goes : slot.place ≡ site super end (area_size lists)
  pub there : All (IsThere kept.read (area_of super end)) payloads
  pub are : lists ≡ gathered true kept.read payloads
  pub numbers_are : numbers ≡ number_bytes slot
  pub fits : Fits slot

-- ---- the device calls

-- as many writes and syncs were made, and none failed
pub record MakesCalls (calls : ℕ) (old new : ℕ → ℕ → Bool) : Type 0 where
  pub succeeded : AllSucceed old calls
  pub plan : GoesOn 0 calls old new

-- one of as many fails, and this is the first that does
abbrev pub FailsWithin : ℕ → (ℕ → ℕ → Bool) → Type 0
FailsWithin calls fails = (call : ℕ) × (1 ≤ call) × (call ≤ calls) × IsFirstFailure fails call

-- a journal without a superblock gets one by four
abbrev pub ready_calls : Option Superblock → ℕ
ready_calls None = 4
ready_calls (Some s) = 0

-- a slot with an open gate is shut by two
abbrev pub shut_calls : ℕ → ℕ
shut_calls gate = if gate == open_gate then 2 else 0

-- how many a whole move to an area of payloads of these sizes takes: the superblock, the area, the slot that doesn't count, and its gate
abbrev pub move_calls : Option Superblock → ℕ → List ℕ → ℕ
move_calls super end sizes =
    let s = superblock_at super end in
    ready_calls super + area_calls sizes + (shut_calls (slot_at (is_second s) s).gate + 2) + 2

-- ---- a move that breaks

-- The last two of these calls write the gate of the new area's slot and sync it. The new payloads count exactly where the one that failed is
-- one of these two, and the byte of all places that aren't synced is the open gate's.
abbrev pub payloads_after_move : ℕ → ℕ → ℕ → List (List ℕ) → List (List ℕ) → List (List ℕ)
payloads_after_move calls call fill old payloads = if nat_le calls (call + 1) && (fill == open_gate) then payloads else old

-- One of these calls failed, the first that was to fail, and what a crash leaves stands for the payloads that this call determines.
pub record IsMoveStopped (calls : ℕ) (fails : ℕ → ℕ → Bool) (kept : Kept) (old payloads : List (List ℕ)) : Type 0 where
  pub call : ℕ
  pub some : 1 ≤ call
  pub within : call ≤ calls
  pub first : IsFirstFailure fails call
  pub image : (fill : ℕ) (bytes : List ℕ) → IsFilled fill kept bytes → StandsFor bytes (payloads_after_move calls call fill old payloads)
