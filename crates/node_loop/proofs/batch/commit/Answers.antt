use Rattle.std.proofs.Common.{refl, sym, ap, subst, List, [], ◌∷◌, ◌++◌, ◌≡◌}
use Rattle.xt_messages.specs.declared.record.Record.{Record}
use Rattle.replica_records.specs.Known.{known_of}
use Rattle.node_runs.specs.Keeping.{KeepsOn}
use Rattle.node_runs.proofs.Keeping.{keeps_now}
use Rattle.object_store.specs.Access.{records_of, disk_of}
use Rattle.object_store.specs.Waits.{recs_of}
use Rattle.node_loop.proofs.Committing.{none_of, puts_all, refuses}
use Rattle.node_loop.proofs.Counting.{stays_changed}
use Rattle.node_loop.proofs.Finishing.{leaves_putting}
use Rattle.node_loop.proofs.Holding.{ends_with_none, with_none}
use Rattle.node_loop.proofs.batch.commit.Goals as goal

pub returns-then-is_empty-clause-kept : goal.returns-then-is_empty-clause-kept
returns-then-is_empty-clause-kept g c = sym (with_none c.args.store (recs_of c.args.records.now) (none_of (recs_of c.args.records.now) (sym c.if-is_empty.ensures)))

pub returns-then-is_empty-clause-journal : goal.returns-then-is_empty-clause-journal
returns-then-is_empty-clause-journal g c = sym (ends_with_none c.args.store (recs_of c.args.records.now) (none_of (recs_of c.args.records.now) (sym c.if-is_empty.ensures)))

pub returns-then-is_empty-clause-empty : goal.returns-then-is_empty-clause-empty
returns-then-is_empty-clause-empty g c = none_of (recs_of c.args.records.now) (sym c.if-is_empty.ensures)

pub returns-then-is_empty-clause-changes : goal.returns-then-is_empty-clause-changes
returns-then-is_empty-clause-changes g c =
    let D = g.D.Disk in
    let store = c.args.store in
    stays_changed D.is_told D.kept D.moment D.left_since (disk_of store) (disk_of store) (records_of store) refl store.keeps
    (λ disk image told left. g.met.D.Disk.only_now disk image told left)

pub returns-in-Ok-clause-changes : goal.returns-in-Ok-clause-changes
returns-in-Ok-clause-changes g c =
    let D = g.D.Disk in
    let old = c.args.store in
    let new = c.in-Ok.store in
    record {
      on = subst (λ (rs : List Record). KeepsOn D.is_told D.moment D.left_since (disk_of old) (disk_of new) (records_of old ∷ rs ∷ [])) (sym c.in-Ok.ensures.end.records)
          (puts_all D.is_told D.kept D.moment D.left_since (disk_of old) (disk_of new) (records_of old) (recs_of c.replace-waited.result) c.in-Ok.ensures.any_moment);
      now = keeps_now D.is_told D.kept D.moment D.left_since (disk_of new) (records_of new) new.keeps (λ image told left. g.met.D.Disk.only_now (disk_of new) image told left);
    }

pub returns-in-Err-Broken-clause-ends : goal.returns-in-Err-Broken-clause-ends
returns-in-Err-Broken-clause-ends g c =
    let D = g.D.Disk in
    let old = c.args.store in
    let facts = rw c.in-Err-Broken.field-0-is at c.in-Err-Broken.ensures in
    let same : recs_of c.replace-waited.result ≡ recs_of c.args.records.now = ap recs_of c.replace-waited.ensures.value in
    leaves_putting D.is_told D.kept D.moment D.left_since g.met.D.Disk.counts_now (disk_of old) c.in-Err-Broken.disk (records_of old) (known_of D.is_told (recs_of c.args.records.now))
    (subst (λ (rs : List Record). KeepsOn D.is_told D.moment D.left_since (disk_of old) c.in-Err-Broken.disk (records_of old ∷ (records_of old ++ known_of D.is_told rs) ∷ [])) same
    (puts_all D.is_told D.kept D.moment D.left_since (disk_of old) c.in-Err-Broken.disk (records_of old) (recs_of c.replace-waited.result) facts.any_moment))

pub returns-in-Err-OutOfMemory-clause-ends : goal.returns-in-Err-OutOfMemory-clause-ends
returns-in-Err-OutOfMemory-clause-ends g c =
    let D = g.D.Disk in
    let old = c.args.store in
    let facts = rw c.in-Err-OutOfMemory.field-0-is at c.in-Err-OutOfMemory.ensures in
    let same : recs_of c.replace-waited.result ≡ recs_of c.args.records.now = ap recs_of c.replace-waited.ensures.value in
    refuses D.is_told D.kept D.moment D.left_since (disk_of old) c.in-Err-OutOfMemory.disk (records_of old) (known_of D.is_told (recs_of c.args.records.now))
    (subst (λ (rs : List Record). KeepsOn D.is_told D.moment D.left_since (disk_of old) c.in-Err-OutOfMemory.disk (records_of old ∷ (records_of old ++ known_of D.is_told rs) ∷ [])) same
    (puts_all D.is_told D.kept D.moment D.left_since (disk_of old) c.in-Err-OutOfMemory.disk (records_of old) (recs_of c.replace-waited.result) facts.any_moment))
    old.keeps facts.end.kept
