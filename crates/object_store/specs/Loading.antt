-- What loading needs, and what it answers.
use Rattle.std.specs.Prelude.{ℕ, ◌≡◌, true, IsTrue, List, length, Result, Ok, Err}
use Rattle.disk_model.specs.declared.disk.Disk.{Ghosts}
use Rattle.journal_moves.specs.declared.extent.Extent.{Extent}
use Rattle.xt_base.specs.Faults.{fault_count_after}
use Rattle.xt_messages.specs.declared.record.Record.{Record}
use Rattle.xt_journal.specs.declared.journal.Journal.{Journal}
use Rattle.xt_journal.specs.Placed.{placed_on}
use Rattle.xt_journal.specs.Access as access
use Rattle.xt_journal.specs.Format.{KeepsJournal}
use Rattle.xt_journal.specs.Reading.{payloads_on, placed_in}
use Rattle.replica_records.specs.Known.{known_of}
use Rattle.object_store.specs.declared.store.Store.{Store}
use Rattle.object_store.specs.declared.errors.StoreErr.{StoreErr}
use Rattle.object_store.specs.declared.errors.StoreErr.TheVariants as load
use Rattle.object_store.specs.Access.{journal_of, records_of}
use Rattle.object_store.specs.Texts.{texts_of, AreRecords, IsFirstBad}

-- The disk of a journal keeps the payloads that it has at these extents, and each is placed as in that journal.
pub record ArePlaced {D : Type 0} {g : Ghosts D} (journal : Journal D g) (extents : List Extent) : Type 0 where
  pub keeps : KeepsJournal (g.kept (access.disk_of journal)) (payloads_on (g.kept (access.disk_of journal)).read extents)
  pub places : placed_on true (g.kept (access.disk_of journal)).read extents ≡ placed_in (access.superblock_of journal) (payloads_on (g.kept (access.disk_of journal)).read extents)

-- The store has the journal, and what is known of records whose texts are the payloads, each within its limits and in its place.
pub record IsLoaded {D : Type 0} {g : Ghosts D} (journal : Journal D g) (payloads : List (List ℕ)) (store : Store D g) : Type 0 where
  pub journal_is : journal_of store ≡ journal
  pub records : List Record
  pub texts : texts_of records ≡ payloads
  pub are : AreRecords records
  pub known : records_of store ≡ known_of g.is_told records

-- Its disk comes back with one fault more, and else as it was. That can't be where contracts know what it keeps.
pub record IsBroken {D : Type 0} {g : Ghosts D} (journal : Journal D g) (count : ℕ) (disk : D) : Type 0 where
  pub untold : IsTrue g.is_told → ⊥
  pub count_is : count ≡ g.fault_count disk
  pub faults : g.fault_count disk ≡ fault_count_after true (g.fault_count (access.disk_of journal))
  pub same : g.kept disk ≡ g.kept (access.disk_of journal)

module _ {D : Type 0} {g : Ghosts D} where
  -- Such a store; or the first payload is reported that is no record in its place, and the journal comes back as it was; or its disk failed.
  abbrev pub IsLoadOf : Journal D g → List (List ℕ) → Result (Store D g) (StoreErr D g) → Type 0
  IsLoadOf journal payloads (Ok store) = IsLoaded journal payloads store
  IsLoadOf journal payloads (Err (load.BadRecord index back)) = (back ≡ journal) × IsFirstBad payloads index
  IsLoadOf journal payloads (Err (load.Broken count disk)) = IsBroken journal count disk
  IsLoadOf journal payloads (Err (load.OutOfMemory back)) = back ≡ journal

  -- so by the payloads that the disk has at these extents, or by as many others where contracts don't know what it has
  abbrev pub IsLoadFrom : Journal D g → List Extent → Result (Store D g) (StoreErr D g) → Type 0
  IsLoadFrom journal extents result =
      (payloads : List (List ℕ)) × (length payloads ≡ length extents) × (IsTrue g.is_told → payloads ≡ payloads_on (g.kept (access.disk_of journal)).read extents)
      × IsLoadOf journal payloads result
