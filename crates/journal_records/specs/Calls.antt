-- What a few device calls do.
use Rattle.std.specs.Prelude.{ℕ, ◌+◌, ◌<◌, ◌≤◌, ◌≡◌, Bool, true, false, List, [], ◌∷◌, ◌++◌, length}
use Rattle.disk_model.specs.Disk.{Kept, IsImage, at_rest, after_write, range_of}

-- The plan goes on after this many calls that look and this many that change.
abbrev pub GoesOn : ℕ → ℕ → (ℕ → ℕ → Bool) → (ℕ → ℕ → Bool) → Type 0
GoesOn looks changes old new = (l c : ℕ) → new l c ≡ old (looks + l) (changes + c)

-- of the writes and syncs that come, this is the first that fails
pub record IsFirstFailure (fails : ℕ → ℕ → Bool) (call : ℕ) : Type 0 where
  pub fails_there : fails 0 call ≡ true
  pub not_before : (c : ℕ) → 1 ≤ c → c < call → fails 0 c ≡ false

-- none of as many writes and syncs fails
abbrev pub AllSucceed : (ℕ → ℕ → Bool) → ℕ → Type 0
AllSucceed fails calls = (c : ℕ) → 1 ≤ c → c ≤ calls → fails 0 c ≡ false

-- what a crash may leave of a disk at rest while a piece is written and synced
abbrev pub MayBeTorn : ℕ → List ℕ → List ℕ → List ℕ → Type 0
MayBeTorn at piece bytes image = IsImage (after_write at piece (at_rest bytes)) image

-- a write of a piece, or the sync after it, failed on a disk that was at rest with these bytes
pub record IsTornAt (at : ℕ) (piece bytes : List ℕ) (kept : Kept) : Type 0 where
  pub synced : kept.synced ≡ bytes
  pub written : kept.written ≡ range_of at piece ∷ []
