-- What a store shows.
use Rattle.std.specs.Prelude.{List}
use Rattle.disk_model.specs.declared.disk.Disk.{Ghosts}
use Rattle.xt_messages.specs.declared.record.Record.{Record}
use Rattle.journal_areas.specs.declared.site.Area.{Area}
use Rattle.journal_areas.specs.Sites as sites
use Rattle.xt_journal.specs.declared.journal.Journal.{Journal}
use Rattle.xt_journal.specs.Access as journal
use Rattle.object_store.specs.declared.log.StoreLog.{StoreLog}
use Rattle.object_store.specs.Logs.{records_in}
use Rattle.object_store.specs.declared.store.Store.{Store}

module _ {D : Type 0} {g : Ghosts D} where
  abbrev pub journal_of : Store D g → Journal D g
  journal_of store = store.journal

  abbrev pub disk_of : Store D g → D
  disk_of store = journal.disk_of store.journal

  -- the records as they are in memory
  abbrev pub log_of : Store D g → StoreLog
  log_of store = store.log

  -- The records that it keeps, in order, as contracts know them: with the bodies that are in their places on its disk, or zeros for them
  -- where contracts don't know what the disk keeps.
  abbrev pub records_of : Store D g → List Record
  records_of store = records_in g.is_told (g.kept (disk_of store)).read store.log

  -- the area of its journal that counts
  abbrev pub area_of : Store D g → Area
  area_of store = sites.area_of (journal.superblock_of store.journal) (journal.place_of store.journal)
