-- where the records of a store are on the disk, and how a rewriting of them went
use Rattle.std.specs.Prelude.{ℕ, ◌≡◌, None, Some, List}
use Rattle.disk_model.specs.declared.disk.Disk.{Ghosts}
use Rattle.xt_messages.specs.declared.record.KeepBody.{KeepBody}
use Rattle.xt_protocol.specs.Forgetting.{rewritten}
use Rattle.xt_journal.specs.Access.{place_of, limit_of, superblock_of}
use Rattle.object_store.specs.declared.store.Store.{Store}
use Rattle.object_store.specs.Access.{journal_of, records_of}
use Rattle.node_runs.specs.Runs.{JournalAt, moved_to, lacks}
use Rattle.node_loop.specs.declared.compacting.Rewritten.{Rewritten}
use Rattle.node_loop.specs.declared.compacting.Rewritten.TheVariants.{Done, NoRoom}

module _ {D : Type 0} {g : Ghosts D} where
  abbrev pub journal_at : Store D g → JournalAt
  journal_at store = record {
    superblock = superblock_of (journal_of store);
    end = place_of (journal_of store);
    limit = limit_of (journal_of store);
  }

  abbrev pub store_in : Rewritten D g → Store D g
  store_in (Done store) = store
  store_in (NoRoom store) = store

  -- The records are rewritten with these bodies, in an area of their own, for which there was room; or there was none, and all is as it was.
  abbrev pub IsRewritten : List KeepBody → Store D g → Rewritten D g → Type 0
  IsRewritten keep old (Done new) =
      (records_of new ≡ rewritten keep (records_of old))
      × (journal_at new ≡ moved_to (journal_at old) (rewritten keep (records_of old)))
      × (lacks (journal_at old) (rewritten keep (records_of old)) ≡ None)
  IsRewritten keep old (NoRoom new) =
      (records_of new ≡ records_of old) × (journal_at new ≡ journal_at old)
      × ((need : ℕ) × (lacks (journal_at old) (rewritten keep (records_of old)) ≡ Some need))
