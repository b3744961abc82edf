-- What the bytes of a journal stand for.
use Rattle.std.specs.Prelude.{ℕ, ◌+◌, ◌<◌, ◌≤◌, ◌≡◌, ◌≢◌, ◌⊎◌, Option, Some, None, List, [], ◌∷◌, ◌++◌, length, drop, slice_index}
use Rattle.journal_records.specs.Records.{IsCutOff}
use Rattle.journal_areas.specs.Format.{open_gate, header, records, record_of, end_of, superblock_kind, IsPayload, AreGiven}
use Rattle.journal_areas.specs.declared.superblock.Slot.{Slot}
use Rattle.journal_areas.specs.declared.superblock.Superblock.{Superblock}
use Rattle.journal_areas.specs.Superblocks.{superblock_in, superblock_size, current, IsSound}

-- ---- how far a journal is read

-- Records only, from the first gate on: so far no superblock was met.
pub record IsPlain (bytes : List ℕ) (payloads : List (List ℕ)) (rest : List ℕ) : Type 0 where
  pub given : AreGiven payloads
  pub are : bytes ≡ header ++ (records payloads ++ rest)

-- the superblock's record after these records, and what follows it: the next gate at least
pub record HasSuperblock (bytes : List ℕ) (s : Superblock) (before : List (List ℕ)) (rest : List ℕ) : Type 0 where
  pub plain : AreGiven before
  pub payload : List ℕ
  pub kind : slice_index payload 0 ≡ superblock_kind
  pub size : length payload ≡ superblock_size
  pub says : s ≡ superblock_in (end_of before) payload
  pub sound : IsSound (length bytes) s
  pub some : 1 ≤ length rest
  pub are : bytes ≡ header ++ (records before ++ open_gate ∷ (record_of payload ++ rest))

-- The superblock was met, and none of its slots is open: the records after it count as those before it do.
pub record IsUnmoved (bytes : List ℕ) (s : Superblock) (payloads : List (List ℕ)) (rest : List ℕ) : Type 0 where
  pub before : List (List ℕ)
  pub after : List (List ℕ)
  pub has : HasSuperblock bytes s before (records after ++ rest)
  pub none : current s ≡ None
  pub given : AreGiven after
  pub all : payloads ≡ before ++ after

-- One of its slots counts: these are the records from its place on, and no others count.
pub record IsMoved (bytes : List ℕ) (s : Superblock) (payloads : List (List ℕ)) (rest : List ℕ) : Type 0 where
  pub before : List (List ℕ)
  pub between : List ℕ
  pub has : HasSuperblock bytes s before between
  pub slot : Slot
  pub counts : current s ≡ Some slot
  pub given : AreGiven payloads
  pub are : drop slot.place bytes ≡ records payloads ++ rest

-- Reading has come so far: past this superblock, if it has met one, with the payloads that count so far; the rest is what is left,
-- and a gate is its first byte.
abbrev pub Reached : Option Superblock → List ℕ → List (List ℕ) → List ℕ → Type 0
Reached None bytes payloads rest = IsPlain bytes payloads rest
Reached (Some s) bytes payloads rest = IsUnmoved bytes s payloads rest ⊎ IsMoved bytes s payloads rest

-- The place of the gate to which reading comes with these payloads, past this superblock or none. Where no slot counts, the header (12
-- bytes) and the superblock's record with its gate (1 + 4 + 51) come before it too.
abbrev pub end_by : Superblock → Option Slot → List (List ℕ) → ℕ
end_by s None payloads = 68 + length (records payloads)
end_by s (Some slot) payloads = slot.place + length (records payloads)

abbrev pub end_in : Option Superblock → List (List ℕ) → ℕ
end_in None payloads = end_of payloads
end_in (Some s) payloads = end_by s (current s) payloads

-- ---- journals

-- Reading ends at a gate that isn't open. What comes after that doesn't count.
pub record IsJournal (super : Option Superblock) (bytes : List ℕ) (payloads : List (List ℕ)) : Type 0 where
  pub gate : ℕ
  pub rest : List ℕ
  pub shut : gate ≢ open_gate
  pub reached : Reached super bytes payloads (gate ∷ rest)

-- in 13 bytes or less there can be no record
pub record IsShort (super : Option Superblock) (bytes : List ℕ) (payloads : List (List ℕ)) : Type 0 where
  pub short : length bytes ≤ 13
  pub none : payloads ≡ []
  pub no_superblock : super ≡ None

-- What a disk with these bytes stands for, in a journal with this superblock or none.
abbrev pub StandsIn : Option Superblock → List ℕ → List (List ℕ) → Type 0
StandsIn super bytes payloads = ∥ IsShort super bytes payloads ⊎ IsJournal super bytes payloads ∥₁

-- in a journal with any superblock
abbrev pub StandsFor : List ℕ → List (List ℕ) → Type 0
StandsFor bytes payloads = ∥ ((super : Option Superblock) × StandsIn super bytes payloads) ∥₁

-- ---- what is no journal

-- A record with a superblock's kind that can't be one: it hasn't its length, or isn't sound in a journal of so many bytes.
abbrev pub IsUnsound : ℕ → ℕ → List ℕ → Type 0
IsUnsound size gate payload = (length payload ≢ superblock_size) ⊎ (IsSound size (superblock_in gate payload) → ⊥)

-- where there is one already, no record of that kind counts as a second one
abbrev pub IsUnfit : Option Superblock → ℕ → ℕ → List ℕ → Type 0
IsUnfit None size gate payload = IsUnsound size gate payload
IsUnfit (Some s) size gate payload = Unit {0}

-- a record of a superblock's kind that may not be at this gate
pub record IsNoSuperblock (super : Option Superblock) (size gate : ℕ) (rest : List ℕ) : Type 0 where
  pub payload : List ℕ
  pub more : List ℕ
  pub is_payload : IsPayload payload
  pub kind : slice_index payload 0 ≡ superblock_kind
  pub some : 1 ≤ length more
  pub are : rest ≡ record_of payload ++ more
  pub unfit : IsUnfit super size gate payload

-- Reading ends at an open gate at this place, after which no record comes that may be there.
pub record IsDamaged (bytes : List ℕ) (place : ℕ) : Type 0 where
  pub long : 13 < length bytes
  pub super : Option Superblock
  pub payloads : List (List ℕ)
  pub rest : List ℕ
  pub reached : Reached super bytes payloads (open_gate ∷ rest)
  pub is_place : place ≡ end_in super payloads
  pub ends : IsCutOff rest ⊎ IsNoSuperblock super (length bytes) place rest
