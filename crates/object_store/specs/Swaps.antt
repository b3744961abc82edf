-- what swapping a store's records for others does
use Rattle.std.specs.Prelude.{ℕ, ◌≡◌, ◌-◌, Option, None, Some, List, is_some, IsTrue, Result, Ok, Err, length, map}
use Rattle.disk_model.specs.declared.disk.Disk.{Ghosts}
use Rattle.disk_model.specs.Disk.{IsImage, LeavesOnly}
use Rattle.xt_base.specs.Faults.{fault_count_after}
use Rattle.xt_messages.specs.declared.record.Record.{Record}
use Rattle.journal_areas.specs.Sites.{area_size, moved, need_for, new_area_of}
use Rattle.journal_moves.specs.Answers.{full_need}
use Rattle.journal_moves.specs.Moves.{FailsWithin, IsEither, IsMoveStopped, MakesCalls, move_calls}
use Rattle.xt_journal.specs.Access.{place_of, limit_of, superblock_of}
use Rattle.xt_journal.specs.Format.{StandsFor}
use Rattle.replica_records.specs.Known.{known_of}
use Rattle.object_store.specs.declared.store.Store.{Store}
use Rattle.object_store.specs.declared.errors.AppendErr.{AppendErr}
use Rattle.object_store.specs.declared.errors.AppendErr.TheVariants as append
use Rattle.object_store.specs.Access.{area_of, journal_of, disk_of, records_of}
use Rattle.object_store.specs.Answers.{put_fault, disk_after_put}
use Rattle.object_store.specs.Puts.{IsUntried}
use Rattle.object_store.specs.Texts.{texts_of}

-- how long an area of these records is
abbrev pub size_of : List Record → ℕ
size_of records = area_size (texts_of records)

module _ {D : Type 0} {g : Ghosts D} where
  -- what the journal would need that has no room for an area of these records
  abbrev pub swap_need : Store D g → List Record → Option ℕ
  swap_need old records = full_need (superblock_of (journal_of old)) (place_of (journal_of old)) (size_of records) (limit_of (journal_of old))

  -- how many writes and syncs it takes
  abbrev pub swap_calls : Store D g → List Record → ℕ
  swap_calls old records = move_calls (superblock_of (journal_of old)) (place_of (journal_of old)) (map length (texts_of records))

-- What is known of these records is in place of the old ones; they stand on the disk in a new area, and each crash leaves them from now on. No
-- call failed.
pub record IsSwapped {D : Type 0} {g : Ghosts D} (old : Store D g) (made : List Record) (new : Store D g) : Type 0 where
  pub records : records_of new ≡ known_of g.is_told made
  pub acknowledged : IsTrue g.is_told → (image : List ℕ) → IsImage (g.kept (disk_of new)) image → StandsFor image (texts_of made)
  pub area : area_of new ≡ new_area_of (superblock_of (journal_of old)) (place_of (journal_of old)) (size_of made)
  pub superblock : superblock_of (journal_of new) ≡ Some (moved (superblock_of (journal_of old)) (place_of (journal_of old)) (size_of made))
  pub place : place_of (journal_of new) ≡ need_for (superblock_of (journal_of old)) (place_of (journal_of old)) (size_of made) - 1
  pub limit : limit_of (journal_of new) ≡ limit_of (journal_of old)
  pub calls : IsTrue g.is_told → MakesCalls (swap_calls old made) (g.fails (disk_of old)) (g.fails (disk_of new))
  pub room : swap_need old made ≡ None

-- One of the calls failed. A crash leaves the old records or these, and which call it was decides which.
pub record IsSwapBroken {D : Type 0} {g : Ghosts D} (old : Store D g) (made : List Record) (count : ℕ) (disk : D) : Type 0 where
  pub left : IsTrue g.is_told → (image : List ℕ) → IsImage (g.kept disk) image → IsEither (texts_of (records_of old)) (texts_of made) image
  pub failed : IsTrue g.is_told → FailsWithin (swap_calls old made) (g.fails (disk_of old))
  pub stopped : IsTrue g.is_told → IsMoveStopped (swap_calls old made) (g.fails (disk_of old)) (g.kept disk) (texts_of (records_of old)) (texts_of made)
  pub fault : count ≡ g.fault_count disk
  pub room : swap_need old made ≡ None

-- There is no room for the new area, and what it needs is reported. The store is as it was, and so is its disk.
pub record IsSwapFull {D : Type 0} {g : Ghosts D} (old : Store D g) (made : List Record) (new : Store D g) (need told_limit : ℕ) : Type 0 where
  pub needed : swap_need old made ≡ Some need
  pub records : records_of new ≡ records_of old
  pub disk : disk_of new ≡ disk_of old
  pub place : place_of (journal_of new) ≡ place_of (journal_of old)
  pub limit : limit_of (journal_of new) ≡ limit_of (journal_of old)
  pub superblock : superblock_of (journal_of new) ≡ superblock_of (journal_of old)
  pub limit_is : told_limit ≡ limit_of (journal_of old)

-- what comes of it
abbrev pub SwapEnds : {D : Type 0} {g : Ghosts D} → Store D g → List Record → Result (Store D g) (AppendErr D g) → Type 0
SwapEnds old made (Ok new) = IsSwapped old made new
SwapEnds old made (Err (append.Broken count disk)) = IsSwapBroken old made count disk
SwapEnds old made (Err (append.Full new need limit)) = IsSwapFull old made new need limit
SwapEnds old made (Err (append.OutOfMemory new)) = IsUntried old new

-- What it does. A crash at any moment leaves the old records or these; and the disk counts one fault more exactly where it fails.
pub record Swaps {D : Type 0} {g : Ghosts D} (old : Store D g) (made : List Record) (result : Result (Store D g) (AppendErr D g)) : Type 0 where
  pub end : SwapEnds old made result
  pub any_moment : IsTrue g.is_told → LeavesOnly g.moment g.left_since (disk_of old) (disk_after_put result) (IsEither (texts_of (records_of old)) (texts_of made))
  pub faults : g.fault_count (disk_after_put result) ≡ fault_count_after (is_some (put_fault result)) (g.fault_count (disk_of old))
