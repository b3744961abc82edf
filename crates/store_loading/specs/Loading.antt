-- the records of a disk are loaded into a store, or they are not
use Rattle.std.specs.Prelude.{ℕ, ◌≡◌, ◌<◌, ◌≤◌, ◌⊎◌, Bool, IsTrue, List, [], length, get_or}
use Rattle.disk_model.specs.declared.disk.Disk.{Ghosts}
use Rattle.disk_model.specs.Disk.{Kept, LeavesOnly, at_rest}
use Rattle.xt_messages.specs.declared.record.Record.{Record}
use Rattle.xt_messages.specs.declared.status.Status.{Status}
use Rattle.xt_messages.specs.declared.status.Status.TheVariants as status
use Rattle.xt_journal.specs.Placed.{Placed}
use Rattle.xt_journal.specs.Access.{limit_of, superblock_of}
use Rattle.xt_journal.specs.Format.{StandsIn, StandsFor, journal_of}
use Rattle.xt_journal.specs.Loaded.{LeavesAsBefore, LeavesDisk}
use Rattle.xt_journal.specs.Reading.{IsTheReading, ReadsAs, Stands, Foreign, Unknown, Damaged, payloads_of}
use Rattle.object_store.specs.declared.store.Store.{Store}
use Rattle.object_store.specs.Access.{disk_of, records_of, journal_of as journal_in}
use Rattle.object_store.specs.Texts.{texts_of, AreRecords, IsFirstBad}
use Rattle.node_runs.specs.Keeping.{KeepsNow}
use Rattle.node_loop.specs.Events.{HasDiskCause}

-- What contracts know of a disk: whether its contents are known, and what they are; its moment, and what a crash at some moment from an
-- earlier one on might have left; and how often it has failed, which is known of each disk.
pub record Medium (D : Type 0) : Type 1 where
  pub is_told : Bool
  pub kept : D → Kept
  pub moment : D → ℕ
  pub left_since : D → ℕ → List ℕ → Type 0
  pub fault_count : D → ℕ

-- the same, of the members of a disk's trait
abbrev pub medium : {D : Type 0} → Bool → (D → Kept) → (D → ℕ) → (D → ℕ → List ℕ → Type 0) → (D → ℕ) → Medium D
medium is_told kept moment left_since fault_count =
    record { is_told = is_told; kept = kept; moment = moment; left_since = left_since; fault_count = fault_count }

-- ---- why no records are loaded

-- These bytes are a journal in which not every payload is a record in its place, and the first such payload has its gate at this place.
pub record HasBadRecord (bytes : List ℕ) (place : ℕ) : Type 0 where
  pub placed : List Placed
  pub stand : ReadsAs bytes (Stands placed)
  pub index : ℕ
  pub first : IsFirstBad (payloads_of placed) index
  pub bad : Placed
  pub is_there : bad ≡ get_or placed index bad
  pub is_place : place ≡ bad.gate

-- Why no records are loaded from a disk that reads these bytes, where these are known: it failed; they are no journal, one of another
-- layout, or a damaged one, or a payload isn't a record in its place; or memory ran out.
abbrev pub EndsUnloaded : Bool → List ℕ → Status → Type 0
EndsUnloaded is_told bytes (status.DiskFault count) = Unit {0}
EndsUnloaded is_told bytes (status.NotOurs first) = IsTrue is_told → IsTheReading bytes (Foreign first)
EndsUnloaded is_told bytes (status.Layout version) = IsTrue is_told → IsTheReading bytes (Unknown version)
EndsUnloaded is_told bytes (status.Damaged place) = IsTrue is_told → IsTheReading bytes (Damaged place) ⊎ HasBadRecord bytes place
EndsUnloaded is_told bytes status.OutOfMemory = Unit {0}
EndsUnloaded is_told bytes _ = ⊥

-- what a disk holds after no records were loaded: what a load leaves that fails, or a journal with no record
abbrev pub IsLeftUnloaded : Kept → Kept → Type 0
IsLeftUnloaded old new = LeavesDisk old new ⊎ ((length old.read ≤ 13) × (new ≡ at_rest (journal_of [])))

module _ {D : Type 0} (m : Medium D) where
  -- No records were loaded, and what the disk holds then. A crash at any moment leaves what it might have left before.
  pub record IsUnloaded (before after : D) (said : Status) : Type 0 where
    pub why : EndsUnloaded m.is_told (m.kept before).read said
    pub cause : HasDiskCause (m.fault_count before) (m.fault_count after) said
    pub each : IsTrue m.is_told → LeavesOnly m.moment m.left_since before after (LeavesAsBefore (m.kept before))
    pub left : IsTrue m.is_told → IsLeftUnloaded (m.kept before) (m.kept after)

  -- The disk gave these records, and keeps them. Until it had given them, a crash left what it might have left before.
  pub record ComesFrom (before loaded : D) (records : List Record) : Type 0 where
    pub stood : IsTrue m.is_told → StandsFor (m.kept before).read (texts_of records)
    pub loads : IsTrue m.is_told → LeavesOnly m.moment m.left_since before loaded (LeavesAsBefore (m.kept before))
    pub kept : IsTrue m.is_told → KeepsNow m.moment m.left_since loaded records
    pub faults : m.fault_count loaded ≡ m.fault_count before

  module _ {g : Ghosts D} where
    -- the store of the records that a disk gave
    pub record IsLoaded (before : D) (limit : ℕ) (store : Store D g) : Type 0 where
      pub are : AreRecords (records_of store)
      pub room : limit_of (journal_in store) ≡ limit
      pub stood : IsTrue m.is_told → StandsIn (superblock_of (journal_in store)) (m.kept before).read (texts_of (records_of store))
      pub comes : ComesFrom before (disk_of store) (records_of store)
      -- a read of a file that may hold a record gives what it gave before
      pub same : IsTrue m.is_told → 13 < length (m.kept before).read → (m.kept (disk_of store)).read ≡ (m.kept before).read
