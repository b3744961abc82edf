-- What loading does to a disk.
use Rattle.std.specs.Prelude.{ℕ, ◌+◌, ◌≤◌, ◌≡◌, ◌≢◌, ◌⊎◌, ◌<◌, Bool, true, false, List, [], length}
use Rattle.disk_model.specs.Disk.{Kept, IsImage, at_rest}
use Rattle.journal_records.specs.Calls.{MayBeTorn, IsTornAt}
use Rattle.xt_journal.specs.Format.{journal_of}

-- loading writes nothing to the disk: it has more than 13 bytes, or is a journal with no record
abbrev pub IsReady : List ℕ → Type 0
IsReady bytes = (13 < length bytes) ⊎ (bytes ≡ journal_of [])

-- loading makes the disk a journal with no record: it has at most 13 bytes and isn't one
abbrev pub IsUnready : List ℕ → Type 0
IsUnready bytes = (length bytes ≤ 13) × (bytes ≢ journal_of [])

-- a crash leaves what it might have left before, or a torn write where the disk is made a journal with no record
abbrev pub LeavesAsBefore : Kept → List ℕ → Type 0
LeavesAsBefore old image = IsImage old image ⊎ (IsUnready old.read × MayBeTorn 0 (journal_of []) old.read image)

-- A load that gives no journal leaves the disk as it was, or with its sync done, or torn where it was made a journal.
abbrev pub LeavesDisk : Kept → Kept → Type 0
LeavesDisk old new = (new ≡ old) ⊎ ((new ≡ at_rest old.read) ⊎ (IsUnready old.read × IsTornAt 0 (journal_of []) old.read new))

-- whether these bytes are a journal with no record
abbrev pub TellsFresh : List ℕ → Bool → Type 0
TellsFresh bytes true = bytes ≡ journal_of []
TellsFresh bytes false = bytes ≢ journal_of []

-- one of the calls failed: of at most one that looks and three that change, or one that changes on a ready disk
pub record FailedCall (fails : ℕ → ℕ → Bool) (bytes : List ℕ) : Type 0 where
  pub looks : ℕ
  pub changes : ℕ
  pub looked : looks ≤ 1
  pub three : changes ≤ 3
  pub one : IsReady bytes → changes ≤ 1
  pub fails_there : fails looks changes ≡ true

-- one call looked, and three changed, or one did on a ready disk
pub record MadeCalls (old new : ℕ → ℕ → Bool) (bytes : List ℕ) : Type 0 where
  pub changes : ℕ
  pub three : changes ≤ 3
  pub one : IsReady bytes → changes ≡ 1
  pub goes_on : (l c : ℕ) → new l c ≡ old (1 + l) (changes + c)
