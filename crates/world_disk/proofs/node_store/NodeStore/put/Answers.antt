use Rattle.std.proofs.Common.{refl, ◌≤◌, ◌∙◌, ◌+◌, List, Option, subst, sym}
use Rattle.disk_model.specs.Changes.{memory_kept}
use Rattle.xt_messages.specs.declared.record.Record.{Record}
use Rattle.journal_areas.specs.declared.superblock.Superblock.{Superblock}
use Rattle.xt_journal.specs.Access.{superblock_of}
use Rattle.object_store.specs.Access.{records_of, disk_of, journal_of}
use Rattle.world_disk.specs.Room.{place_in}
use Rattle.world_disk.specs.declared.TheConstants.{JOURNAL}
use Rattle.world_disk.proofs.Rooms.{has_room, has_none, keeps_here, short_with}
use Rattle.world_disk.proofs.StoredRecords.{ready_with}
use Rattle.world_disk.proofs.Stopping.{false_ne_true}
use Rattle.world_disk.proofs.node_store.NodeStore.put.Goals as goal

pub invariant_of-result : goal.invariant_of-result
invariant_of-result c =
    let old = c.self.inside.store in
    let new = c.in-Ok.store in
    record {
      never_fails = λ looks changes. c.in-Ok.ensures.end.plan refl looks changes ∙ c.self.invariant.never_fails (0 + looks) (4 + changes);
      ready = ready_with (superblock_of (journal_of new)) (memory_kept (disk_of new)) (records_of new) (records_of old) c.args.rec.now c.in-Ok.ensures.end.records (keeps_here new refl);
      short = subst (λ (super : Option Superblock). place_in super (records_of new) ≤ JOURNAL) (sym c.in-Ok.ensures.end.superblock)
          (subst (λ (rs : List Record). place_in (superblock_of (journal_of old)) rs ≤ JOURNAL) (sym c.in-Ok.ensures.end.records)
          (short_with old refl c.args.rec.now c.self.invariant.limited c.in-Ok.ensures.end.room));
      limited = c.in-Ok.ensures.end.limit ∙ c.self.invariant.limited;
    }

pub returns-in-Ok-clause-room : goal.returns-in-Ok-clause-room
returns-in-Ok-clause-room c =
    rw (← c.self.view_is) (has_room c.self.inside.store refl c.args.rec.now c.self.invariant.limited c.in-Ok.ensures.end.room)

pub returns-in-Err-Full-clause-room : goal.returns-in-Err-Full-clause-room
returns-in-Err-Full-clause-room c =
    let facts = rw c.in-Err-Full.field-0-is at c.in-Err-Full.ensures in
    rw (← c.self.view_is)
    (has_none c.self.inside.store refl c.args.rec.now c.self.invariant.limited c.in-Err-Full.need c.in-Err-Full.limit c.requires.fits c.self.invariant.short
    facts.end.over facts.end.need_is facts.end.limit_is)

pub unreachable-requires : goal.unreachable-requires
unreachable-requires c =
    let facts = rw c.in-Err-Broken.field-0-is at c.in-Err-Broken.ensures in
    let stopped = facts.end.stopped refl in
    false_ne_true (sym (c.self.invariant.never_fails 0 stopped.call) ∙ stopped.first.fails_there)
