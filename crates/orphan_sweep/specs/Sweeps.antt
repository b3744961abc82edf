-- what a sweep does to a store
use Rattle.std.specs.Prelude.{ℕ, ◌≡◌, ◌≤◌, ◌⊎◌, nat_lt, if◌then◌else◌, Option, None, Some, List, [], ◌∷◌, ◌++◌, is_some, length, take, IsTrue, Result, Ok, Err}
use Rattle.disk_model.specs.declared.disk.Disk.{Ghosts}
use Rattle.disk_model.specs.Disk.{IsImage, LeavesOnly}
use Rattle.xt_base.specs.Faults.{counted, fault_count_after}
use Rattle.xt_base.specs.declared.ids.FileId.{FileId}
use Rattle.xt_messages.specs.declared.record.Record.{Record}
use Rattle.xt_messages.specs.declared.record.Record.TheVariants as kept
use Rattle.journal_areas.specs.declared.superblock.Superblock.{Superblock}
use Rattle.journal_moves.specs.Answers.{full_need}
use Rattle.xt_journal.specs.Access.{limit_of, place_of, superblock_of}
use Rattle.xt_journal.specs.Format.{StandsFor}
use Rattle.object_store.specs.declared.store.Store.{Store}
use Rattle.object_store.specs.declared.errors.AppendErr.{AppendErr}
use Rattle.object_store.specs.declared.errors.AppendErr.TheVariants as append
use Rattle.object_store.specs.Access.{disk_of, journal_of, records_of}
use Rattle.object_store.specs.Answers.{disk_after_put, put_fault}
use Rattle.object_store.specs.Swaps.{size_of}
use Rattle.object_store.specs.Texts.{texts_of}
use Rattle.object_store.specs.Waits.{end_after, needed_after}
use Rattle.orphan_sweep.specs.Swept.{SaysBut, SaysNamedBut, compacted, removed, swept}

-- ---- what a crash leaves

-- the records as they were, but for some of the first of these files
abbrev pub StandsOnTheWay : List Record → List FileId → List ℕ → Type 0
StandsOnTheWay records files image = (n : ℕ) × (n ≤ length files) × StandsFor image (texts_of (removed records (take n files)))

-- those, or the records once all of these files are swept
abbrev pub StandsBetween : List Record → List FileId → List ℕ → Type 0
StandsBetween records files image = StandsOnTheWay records files image ⊎ StandsFor image (texts_of (swept records files))

-- ---- room

-- What a journal lacks for a record that removes each of these files and then for the rewritten records, with this superblock or none, this
-- end and this limit: how many bytes it would need for the first of these that has no room.
unfoldable pub lacking : Option Superblock → ℕ → ℕ → List Record → List FileId → Option ℕ
lacking super limit end records [] = full_need super end (size_of (compacted records)) limit
lacking super limit end records (file ∷ files) =
    let needed = needed_after end (kept.Forget file ∷ []) in
    if nat_lt limit needed then Some (counted needed)
    else lacking super limit (end_after end (kept.Forget file ∷ [])) (removed records (file ∷ [])) files

module _ {D : Type 0} {g : Ghosts D} where
  abbrev pub sweep_need : Store D g → List FileId → Option ℕ
  sweep_need store files = lacking (superblock_of (journal_of store)) (limit_of (journal_of store)) (place_of (journal_of store)) (records_of store) files

-- ---- the store once some files are removed

-- These files are removed. A crash on the way left the records but for some of the first of them.
pub record AreRemoved {D : Type 0} {g : Ghosts D} (old : Store D g) (files : List FileId) (new : Store D g) : Type 0 where
  pub records : records_of new ≡ removed (records_of old) files
  pub limit : limit_of (journal_of new) ≡ limit_of (journal_of old)
  pub room : (later : List FileId) → sweep_need old (files ++ later) ≡ sweep_need new later
  pub any_moment : IsTrue g.is_told → LeavesOnly g.moment g.left_since (disk_of old) (disk_of new) (StandsOnTheWay (records_of old) files)
  pub faults : g.fault_count (disk_of new) ≡ g.fault_count (disk_of old)

-- The store comes back once so many of the files are removed.
pub record IsBack {D : Type 0} {g : Ghosts D} (old : Store D g) (files : List FileId) (new : Store D g) : Type 0 where
  pub count : ℕ
  pub within : count ≤ length files
  pub records : records_of new ≡ removed (records_of old) (take count files)

-- There is no room for the next record, or for the rewritten ones, and what they need is reported.
pub record IsSweepFull {D : Type 0} {g : Ghosts D} (old : Store D g) (files : List FileId) (new : Store D g) (need limit : ℕ) : Type 0 where
  pub back : IsBack old files new
  pub needed : sweep_need old files ≡ Some need
  pub limit_is : limit ≡ limit_of (journal_of old)

module _ {D : Type 0} {g : Ghosts D} where
  -- why a sweep ends before its end
  abbrev pub StopsAt : Store D g → List FileId → AppendErr D g → Type 0
  StopsAt old files (append.Broken count disk) = count ≡ g.fault_count disk
  StopsAt old files (append.Full new need limit) = IsSweepFull old files new need limit
  StopsAt old files (append.OutOfMemory new) = IsBack old files new

-- The removal of the files ends with an error: a crash on the way left the records but for some of the first of them, and the disk counts
-- one fault more exactly where it fails.
pub record IsStopped {D : Type 0} {g : Ghosts D} (old : Store D g) (files : List FileId) (error : AppendErr D g) : Type 0 where
  pub end : StopsAt old files error
  pub any_moment : IsTrue g.is_told → LeavesOnly g.moment g.left_since (disk_of old) (disk_after_put (Err error)) (StandsOnTheWay (records_of old) files)
  pub faults : g.fault_count (disk_after_put (Err error)) ≡ fault_count_after (is_some (put_fault (Err error))) (g.fault_count (disk_of old))

module _ {D : Type 0} {g : Ghosts D} where
  abbrev pub Removes : Store D g → List FileId → Result (Store D g) (AppendErr D g) → Type 0
  Removes old files (Ok new) = AreRemoved old files new
  Removes old files (Err error) = IsStopped old files error

-- ---- a sweep

-- The files are removed, and the records are rewritten with those bodies alone that the heads of the others name; each crash leaves these from
-- now on. There was room for all of it.
pub record IsSwept {D : Type 0} {g : Ghosts D} (old : Store D g) (files : List FileId) (new : Store D g) : Type 0 where
  pub records : records_of new ≡ swept (records_of old) files
  pub acknowledged : IsTrue g.is_told → (image : List ℕ) → IsImage (g.kept (disk_of new)) image → StandsFor image (texts_of (swept (records_of old) files))
  pub limit : limit_of (journal_of new) ≡ limit_of (journal_of old)
  pub room : sweep_need old files ≡ None

module _ {D : Type 0} {g : Ghosts D} where
  -- how it ends
  abbrev pub SweepEnds : Store D g → List FileId → Result (Store D g) (AppendErr D g) → Type 0
  SweepEnds old files (Ok new) = IsSwept old files new
  SweepEnds old files (Err error) = StopsAt old files error

-- What it does. A crash at any moment, and in the end, leaves the records but for some of the first of these files, or those that are rewritten
-- once all of the files are removed; and all of these say what the old ones said of the other files. The disk counts one fault more exactly
-- where it fails.
pub record Sweeps {D : Type 0} {g : Ghosts D} (old : Store D g) (files : List FileId) (result : Result (Store D g) (AppendErr D g)) : Type 0 where
  pub end : SweepEnds old files result
  pub any_moment : IsTrue g.is_told → LeavesOnly g.moment g.left_since (disk_of old) (disk_after_put result) (StandsBetween (records_of old) files)
  pub left : IsTrue g.is_told → (image : List ℕ) → IsImage (g.kept (disk_after_put result)) image → StandsBetween (records_of old) files image
  pub faults : g.fault_count (disk_after_put result) ≡ fault_count_after (is_some (put_fault result)) (g.fault_count (disk_of old))
  pub on_the_way : (n : ℕ) → SaysBut (take n files) (records_of old) (removed (records_of old) (take n files))
  pub in_the_end : SaysNamedBut files (records_of old) (swept (records_of old) files)
