use Rattle.disk_model.specs.Changes.{memory_kept}
use Rattle.disk_model.specs.Plan.{planned}
use Rattle.xt_journal.specs.Access.{superblock_of}
use Rattle.object_store.specs.Access.{records_of, disk_of, journal_of}
use Rattle.world_disk.proofs.StoredRecords.{short_on}
use Rattle.world_disk.proofs.Stopping.{never, calm_after}
use Rattle.world_disk.proofs.node_store.restarted.Goals as goal

pub store_on-requires-clause-stands : goal.store_on-requires-clause-stands
store_on-requires-clause-stands c = rw c.new-disk.ensures c.requires

pub invariant_of-result : goal.invariant_of-result
invariant_of-result c =
    let disk = c.new-disk.result in
    let store = c.in_ok-store_on.field-0 in
    record {
      never_fails = calm_after (planned disk.plan) (planned (disk_of store).plan) (memory_kept disk).read (never disk c.args.bytes _ c.new-disk.ensures c.new.ensures)
          c.in_ok-store_on.ensures.plan;
      ready = c.in_ok-store_on.ensures.ready;
      short = short_on (memory_kept disk).read (superblock_of (journal_of store)) (records_of store) c.in_ok-store_on.ensures.reads c.in_ok-store_on.ensures.superblock;
      limited = c.in_ok-store_on.ensures.limit;
    }
