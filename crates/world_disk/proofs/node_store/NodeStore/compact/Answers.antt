use Rattle.std.proofs.Common.{refl, ◌∙◌, ◌+◌, Ok}
use Rattle.xt_protocol.specs.Forgetting.{rewritten}
use Rattle.object_store.specs.Access.{records_of, disk_of, journal_of}
use Rattle.object_store.specs.Swaps.{swap_calls}
use Rattle.object_store.proofs.Callers.{swapped_told}
use Rattle.xt_journal.specs.Access.{limit_of, superblock_of}
use Rattle.world_disk.proofs.Rewriting.{calm_same, full_room, none_failed, stored_same, swapped_ready, swapped_room, swapped_short, swapped_superblock, swaps_told}
use Rattle.world_disk.proofs.node_store.NodeStore.compact.Goals as goal

pub compact-requires : goal.compact-requires
compact-requires c =
    let may = rw (← c.self.view_is) at c.requires in
    record { fit = may.limits; placed = may.places }

pub invariant_of-result : goal.invariant_of-result
invariant_of-result c =
    let old = c.self.inside.store in
    let new = c.in-Ok.store in
    let made = rewritten c.args.keep.now (records_of old) in
    let end = (swaps_told c.args.keep.now old (Ok new) refl c.in-Ok.ensures).end in
    record {
      never_fails = λ looks changes. (end.calls refl).plan looks changes ∙ c.self.invariant.never_fails (0 + looks) (swap_calls old made + changes);
      ready = swapped_ready old refl c.self.invariant.limited made new end;
      short = swapped_short old refl c.self.invariant.limited made new end;
      limited = end.limit ∙ c.self.invariant.limited;
    }

pub invariant_of-result-in-Err-Full : goal.invariant_of-result-in-Err-Full
invariant_of-result-in-Err-Full c =
    let old = c.self.inside.store in
    let new = c.in-Err-Full.store in
    let facts = swaps_told c.args.keep.now old _ refl (rw c.in-Err-Full.field-0-is at c.in-Err-Full.ensures) in
    calm_same (disk_of old) (disk_of new) (records_of old) (records_of new) (limit_of (journal_of old)) (limit_of (journal_of new)) (superblock_of (journal_of old))
    (superblock_of (journal_of new)) facts.end.disk facts.end.records facts.end.limit facts.end.superblock c.self.invariant

pub returns-in-Ok : goal.returns-in-Ok
returns-in-Ok c =
    let old = c.self.inside.store in
    let new = c.in-Ok.store in
    let made = rewritten c.args.keep.now (records_of old) in
    let swaps = swaps_told c.args.keep.now old (Ok new) refl c.in-Ok.ensures in
    let end = swaps.end in
    rw (← c.self.view_is) (record {
      room = swapped_room old refl c.self.invariant.limited made new end;
      made = (swapped_told old made new end refl, swapped_superblock old refl c.self.invariant.limited made new end);
      crash = (swaps.any_moment refl).each;
    })

pub returns-in-Err-Full : goal.returns-in-Err-Full
returns-in-Err-Full c =
    let old = c.self.inside.store in
    let new = c.in-Err-Full.store in
    let made = rewritten c.args.keep.now (records_of old) in
    let facts = swaps_told c.args.keep.now old _ refl (rw c.in-Err-Full.field-0-is at c.in-Err-Full.ensures) in
    rw (← c.self.view_is) (record {
      room = full_room old refl c.self.invariant.limited made new _ _ facts.end;
      made = stored_same _ _ facts.end.records facts.end.superblock facts.end.disk;
      crash = (facts.any_moment refl).each;
    })

pub unreachable-requires : goal.unreachable-requires
unreachable-requires c =
    let facts = swaps_told c.args.keep.now c.self.inside.store _ refl (rw c.in-Err-Broken.field-0-is at c.in-Err-Broken.ensures) in
    none_failed _ _ c.self.invariant.never_fails (facts.end.failed refl)
