use Rattle.std.proofs.Common.{ap, subst}
use Rattle.object_store.specs.Access.{records_of, disk_of}
use Rattle.node_loop.specs.Passing.{IsReason}
use Rattle.node_loop.proofs.Committing.{reason_cause}
use Rattle.node_loop.proofs.Counting.{stays_changed}
use Rattle.node_loop.proofs.batch.end_with.Goals as goal

pub returns-in-With-clause-changes : goal.returns-in-With-clause-changes
returns-in-With-clause-changes g c =
    let D = g.D.Disk in
    let store = c.args.store in
    stays_changed D.is_told D.kept D.moment D.left_since (disk_of store) c.close.result (records_of store) c.close.ensures store.keeps
    (λ disk image told left. g.met.D.Disk.only_now disk image told left)

pub returns-in-With-clause-disk_cause : goal.returns-in-With-clause-disk_cause
returns-in-With-clause-disk_cause g c = reason_cause _ _ c.in-With.status (subst IsReason c.in-With.is c.requires.known) (ap g.D.Disk.fault_count c.close.ensures)
