use Rattle.std.proofs.Common.{ap, refl}
use Rattle.disk_model.specs.Changes.{memory_kept}
use Rattle.xt_journal.specs.Access as journal
use Rattle.xt_journal.specs.Reading.{Foreign, Unknown, Damaged, payloads_of}
use Rattle.object_store.proofs.Callers.{are_placed}
use Rattle.world_disk.proofs.StoredRecords.{is_loaded, nothing_else}
use Rattle.world_disk.proofs.node_store.journal_on.Goals as goal

pub returns-in-Ok-clause-loaded : goal.returns-in-Ok-clause-loaded
returns-in-Ok-clause-loaded c = is_loaded c.args.disk (journal.disk_of c.in-Ok.found.0) c.requires.made (c.in-Ok.ensures.any_moment refl)

pub returns-in-Ok-clause-reads : goal.returns-in-Ok-clause-reads
returns-in-Ok-clause-reads c = c.in-Ok.ensures.superblock refl

pub returns-in-Ok-clause-placed : goal.returns-in-Ok-clause-placed
returns-in-Ok-clause-placed c =
    let found = c.in-Ok.found in
    are_placed found.0 (memory_kept c.args.disk).read found.1.items (c.in-Ok.ensures.keeps refl) (c.in-Ok.ensures.reads refl) (c.in-Ok.ensures.superblock refl)
    (c.in-Ok.ensures.stays refl)

pub returns-in-Ok-clause-stays : goal.returns-in-Ok-clause-stays
returns-in-Ok-clause-stays c = ap payloads_of (c.in-Ok.ensures.stays refl)

pub unreachable-requires-in-Err-NotOurs : goal.unreachable-requires-in-Err-NotOurs
unreachable-requires-in-Err-NotOurs c =
    let reads = rw c.in-Err-NotOurs.field-0-is at c.in-Err-NotOurs.ensures.reads in
    nothing_else (memory_kept c.args.disk).read (Foreign c.in-Err-NotOurs.field-0-0) c.requires.stands (reads refl) (λ placed same. cc)

pub unreachable-requires-in-Err-Layout : goal.unreachable-requires-in-Err-Layout
unreachable-requires-in-Err-Layout c =
    let reads = rw c.in-Err-Layout.field-0-is at c.in-Err-Layout.ensures.reads in
    nothing_else (memory_kept c.args.disk).read (Unknown c.in-Err-Layout.field-0-0) c.requires.stands (reads refl) (λ placed same. cc)

pub unreachable-requires-in-Err-Damaged : goal.unreachable-requires-in-Err-Damaged
unreachable-requires-in-Err-Damaged c =
    let reads = rw c.in-Err-Damaged.field-0-is at c.in-Err-Damaged.ensures.reads in
    nothing_else (memory_kept c.args.disk).read (Damaged c.in-Err-Damaged.field-0-0) c.requires.stands (reads refl) (λ placed same. cc)
