-- What appending does to a disk.
use Rattle.std.specs.Prelude.{ℕ, ◌≤◌, ◌≡◌, ◌⊎◌, Bool, ◌&&◌, ◌==◌, nat_le, if◌then◌else◌, Option, List, [], ◌∷◌, ◌++◌}
use Rattle.disk_model.specs.Disk.{Kept, IsFilled}
use Rattle.journal_records.specs.Calls.{IsFirstFailure}
use Rattle.journal_areas.specs.declared.superblock.Superblock.{Superblock}
use Rattle.xt_journal.specs.Format.{open_gate, records, end_in, IsGiven, AreGiven, StandsIn, StandsFor, KeepsIn}

-- the journal of these payloads, with all of these more or with none of them
abbrev pub IsWithAllOrNone : List (List ℕ) → List (List ℕ) → List ℕ → Type 0
IsWithAllOrNone payloads more image = StandsFor image payloads ⊎ StandsFor image (payloads ++ more)

-- with this one more or without it
abbrev pub IsWithOrWithout : List (List ℕ) → List ℕ → List ℕ → Type 0
IsWithOrWithout payloads payload image = IsWithAllOrNone payloads (payload ∷ []) image

-- An append that is stopped in this one of its four calls has its records exactly when the first one's gate was being written or
-- synced, and its byte is the open gate's.
abbrev pub payloads_after : ℕ → ℕ → List (List ℕ) → List (List ℕ) → List (List ℕ)
payloads_after call fill payloads more = if nat_le 3 call && (fill == open_gate) then payloads ++ more else payloads

abbrev pub payloads_after_stop : ℕ → ℕ → List (List ℕ) → List ℕ → List (List ℕ)
payloads_after_stop call fill payloads payload = payloads_after call fill payloads (payload ∷ [])

-- One of the four calls failed, the first that was to fail, and what a crash leaves stands for the payloads that this call
-- determines, in the same superblock as before or none.
pub record AreStopped (super : Option Superblock) (fails : ℕ → ℕ → Bool) (kept : Kept) (payloads more : List (List ℕ)) : Type 0 where
  pub call : ℕ
  pub some : 1 ≤ call
  pub four : call ≤ 4
  pub first : IsFirstFailure fails call
  pub image : (fill : ℕ) (bytes : List ℕ) → IsFilled fill kept bytes → StandsIn super bytes (payloads_after call fill payloads more)

abbrev pub IsStopped : Option Superblock → (ℕ → ℕ → Bool) → Kept → List (List ℕ) → List ℕ → Type 0
IsStopped super fails kept payloads payload = AreStopped super fails kept payloads (payload ∷ [])

-- a payload goes to this place, where the records of the disk's journal end
pub record GoesAt (super : Option Superblock) (kept : Kept) (end : ℕ) (payloads : List (List ℕ)) (payload : List ℕ) : Type 0 where
  pub keeps : KeepsIn super kept payloads
  pub place : end ≡ end_in super payloads
  pub given : IsGiven payload

-- these go there
pub record GoAt (super : Option Superblock) (kept : Kept) (end : ℕ) (payloads more : List (List ℕ)) : Type 0 where
  pub keeps : KeepsIn super kept payloads
  pub place : end ≡ end_in super payloads
  pub given : AreGiven more

-- After an open gate a piece is the records of these payloads, and then a closed gate.
pub record IsRunOf (piece : List ℕ) (more : List (List ℕ)) : Type 0 where
  pub given : AreGiven more
  pub are : open_gate ∷ piece ≡ records more ++ 0 ∷ []

-- payloads go there, and a piece is their records after the first one's gate, with the next gate, closed
pub record IsTurn (super : Option Superblock) (kept : Kept) (end : ℕ) (piece : List ℕ) (payloads more : List (List ℕ)) : Type 0 where
  pub goes : GoAt super kept end payloads more
  pub is_piece : open_gate ∷ piece ≡ records more ++ 0 ∷ []
