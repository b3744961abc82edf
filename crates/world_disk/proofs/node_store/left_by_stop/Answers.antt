use Rattle.std.proofs.Common.{refl}
use Rattle.disk_model.specs.Changes.{memory_kept}
use Rattle.disk_model.specs.Plan.{planned}
use Rattle.xt_journal.specs.Access.{superblock_of}
use Rattle.object_store.specs.Access.{records_of, disk_of, journal_of}
use Rattle.world_disk.proofs.Rooms.{has_room, has_none, short_with}
use Rattle.world_disk.proofs.Stopping.{left_in, left_on, told_by_call, must_fail}
use Rattle.world_disk.proofs.node_store.left_by_stop.Goals as goal

pub returns-in-Err-Broken-clause-left : goal.returns-in-Err-Broken-clause-left
returns-in-Err-Broken-clause-left c =
    let facts = rw c.in-Err-Broken.field-0-is at c.in-Err-Broken.ensures in
    record {
      disk = c.in-Err-Broken.disk;
      tells = told_by_call (planned (disk_of c.args.store).plan) c.args.stop.call c.requires.stops c.requires.low c.requires.high
          (superblock_of (journal_of c.args.store)) (records_of c.args.store) c.args.rec.now (memory_kept c.in-Err-Broken.disk) (facts.end.stopped refl);
      left = c.in_ok-filled-in-Err-Broken.ensures.filled;
    }

pub returns-in-Err-Broken-clause-stands : goal.returns-in-Err-Broken-clause-stands
returns-in-Err-Broken-clause-stands c =
    let facts = rw c.in-Err-Broken.field-0-is at c.in-Err-Broken.ensures in
    left_on (planned (disk_of c.args.store).plan) c.args.stop.call c.requires.stops c.requires.low c.requires.high (superblock_of (journal_of c.args.store))
    c.args.stop.fill (records_of c.args.store)
    c.args.rec.now (memory_kept c.in-Err-Broken.disk) c.in_ok-filled-in-Err-Broken.field-0 (facts.end.stopped refl) c.in_ok-filled-in-Err-Broken.ensures.filled
    c.args.store.sound c.requires.fits c.requires.place c.requires.short (short_with c.args.store refl c.args.rec.now c.requires.limit facts.end.room)

pub returns-in-Err-Broken-clause-superblock : goal.returns-in-Err-Broken-clause-superblock
returns-in-Err-Broken-clause-superblock c =
    let facts = rw c.in-Err-Broken.field-0-is at c.in-Err-Broken.ensures in
    left_in (planned (disk_of c.args.store).plan) c.args.stop.call c.requires.stops c.requires.low c.requires.high (superblock_of (journal_of c.args.store))
    c.args.stop.fill (records_of c.args.store)
    c.args.rec.now (memory_kept c.in-Err-Broken.disk) c.in_ok-filled-in-Err-Broken.field-0 (facts.end.stopped refl) c.in_ok-filled-in-Err-Broken.ensures.filled

pub returns-in-Err-Broken-clause-room : goal.returns-in-Err-Broken-clause-room
returns-in-Err-Broken-clause-room c =
    let facts = rw c.in-Err-Broken.field-0-is at c.in-Err-Broken.ensures in
    has_room c.args.store refl c.args.rec.now c.requires.limit facts.end.room

pub returns-in-Err-Full-clause-room : goal.returns-in-Err-Full-clause-room
returns-in-Err-Full-clause-room c =
    let facts = rw c.in-Err-Full.field-0-is at c.in-Err-Full.ensures in
    has_none c.args.store refl c.args.rec.now c.requires.limit c.in-Err-Full.need c.in-Err-Full.limit c.requires.fits c.requires.short facts.end.over facts.end.need_is facts.end.limit_is

pub unreachable-requires : goal.unreachable-requires
unreachable-requires c =
    must_fail (planned (disk_of c.args.store).plan) c.args.stop.call c.requires.stops c.requires.low c.requires.high (c.in-Ok.ensures.end.succeeded refl)
