-- What loading and appending answer.
use Rattle.std.specs.Prelude.{ℕ, ◌<◌, ◌≤◌, ◌≡◌, true, List, Vec, Option, None, Some, Result, Ok, Err}
use Rattle.std.specs.declared.alloc.Global.{Global}
use Rattle.disk_model.specs.declared.disk.Disk.{Ghosts}
use Rattle.xt_base.specs.Faults.{counted}
use Rattle.journal_moves.specs.declared.extent.Extent.{Extent}
use Rattle.xt_journal.specs.declared.journal.Journal.{Journal}
use Rattle.xt_journal.specs.declared.errors.LoadErr.{LoadErr}
use Rattle.xt_journal.specs.declared.errors.LoadErr.TheVariants as load
use Rattle.xt_journal.specs.declared.errors.AppendErr.{AppendErr}
use Rattle.xt_journal.specs.declared.errors.AppendErr.TheVariants as append
use Rattle.xt_journal.specs.Access.{disk_of, limit_of}
use Rattle.xt_journal.specs.Placed.{placed_on}
use Rattle.xt_journal.specs.Reading.{Reading, Stands, Foreign, Unknown, Damaged}

module _ {D : Type 0} {g : Ghosts D} where
  -- the disk that a load hands back
  abbrev pub disk_after_load : Result (Journal D g × Vec Extent Global) (LoadErr D) → D
  disk_after_load (Ok loaded) = disk_of loaded.0
  disk_after_load (Err (load.DiskFault count disk)) = disk
  disk_after_load (Err (load.NotOurs first disk)) = disk
  disk_after_load (Err (load.Layout version disk)) = disk
  disk_after_load (Err (load.Damaged place disk)) = disk
  disk_after_load (Err (load.OutOfMemory disk)) = disk

  -- the disk that an append hands back
  abbrev pub disk_after_append : Result (Journal D g) (AppendErr D g) → D
  disk_after_append (Ok journal) = disk_of journal
  disk_after_append (Err (append.Broken count disk)) = disk
  disk_after_append (Err (append.Full journal need limit)) = disk_of journal
  disk_after_append (Err (append.OutOfMemory journal)) = disk_of journal

  -- what a disk with these bytes was read as, unless it failed or memory ran out
  abbrev pub reading_of : List ℕ → Result (Journal D g × Vec Extent Global) (LoadErr D) → Option Reading
  reading_of read (Ok loaded) = Some (Stands (placed_on true read loaded.1.items))
  reading_of read (Err (load.DiskFault count disk)) = None
  reading_of read (Err (load.NotOurs first disk)) = Some (Foreign first)
  reading_of read (Err (load.Layout version disk)) = Some (Unknown version)
  reading_of read (Err (load.Damaged place disk)) = Some (Damaged place)
  reading_of read (Err (load.OutOfMemory disk)) = None

  -- the count of faults that a load reports
  abbrev pub load_fault : Result (Journal D g × Vec Extent Global) (LoadErr D) → Option ℕ
  load_fault (Ok loaded) = None
  load_fault (Err (load.DiskFault count disk)) = Some count
  load_fault (Err (load.NotOurs first disk)) = None
  load_fault (Err (load.Layout version disk)) = None
  load_fault (Err (load.Damaged place disk)) = None
  load_fault (Err (load.OutOfMemory disk)) = None

  -- the count of faults that an append reports
  abbrev pub append_fault : Result (Journal D g) (AppendErr D g) → Option ℕ
  append_fault (Ok journal) = None
  append_fault (Err (append.Broken count disk)) = Some count
  append_fault (Err (append.Full journal need limit)) = None
  append_fault (Err (append.OutOfMemory journal)) = None

  -- the journal that comes back where memory runs out
  abbrev pub without_memory : Result (Journal D g) (AppendErr D g) → Option (Journal D g)
  without_memory (Ok journal) = None
  without_memory (Err (append.Broken count disk)) = None
  without_memory (Err (append.Full journal need limit)) = None
  without_memory (Err (append.OutOfMemory journal)) = Some journal

  -- The journal is full exactly where it would need more than its limit. It is as it was then.
  abbrev pub IsFullExactly : Journal D g → ℕ → Result (Journal D g) (AppendErr D g) → Type 0
  IsFullExactly old needed (Ok journal) = needed ≤ limit_of old
  IsFullExactly old needed (Err (append.Broken count disk)) = needed ≤ limit_of old
  IsFullExactly old needed (Err (append.Full journal need limit)) =
      (limit_of old < needed) × (journal ≡ old) × (need ≡ counted needed) × (limit ≡ limit_of old)
  IsFullExactly old needed (Err (append.OutOfMemory journal)) = needed ≤ limit_of old
