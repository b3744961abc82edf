use Rattle.std.proofs.Common.{subst, sym}
use Rattle.object_store.specs.Access.{records_of, disk_of}
use Rattle.node_runs.specs.BatchEnds.{nothing}
use Rattle.node_loop.specs.Passing.{IsDoing}
use Rattle.node_loop.proofs.Counting.{counted_keeps, stays_changed}
use Rattle.node_loop.proofs.Finishing.{does_nothing}
use Rattle.scrub_job.proofs.scrubbing.unread.Goals as goal
use Rattle.scrub_job.proofs.scrubbing.unread.Goals.{in-Failed, in-OutOfMemory}

pub returns-clause-keeps : goal.returns-clause-keeps
returns-clause-keeps g c =
    let D = g.D.Disk in
    let store = c.args.store in
    elim c.match-why.branch [
      | in-Failed w ↦
          subst (λ d. IsDoing D.is_told D.kept D.moment D.left_since (disk_of store) d (records_of store) nothing) (sym w.disk-is)
          (does_nothing D.is_told D.kept D.moment D.left_since g.met.D.Disk.counts_now (disk_of store) w.count_fault.new.self (records_of store)
          (counted_keeps D.is_told D.kept D.moment D.left_since (disk_of store) c.close-disk.result w.count_fault.new.self (records_of store) c.close-disk.ensures store.keeps
          (λ disk image told left. g.met.D.Disk.only_now disk image told left) w.count_fault.ensures.same w.count_fault.ensures.time))
      | in-OutOfMemory w ↦
          subst (λ d. IsDoing D.is_told D.kept D.moment D.left_since (disk_of store) d (records_of store) nothing) (sym w.disk-is)
          (does_nothing D.is_told D.kept D.moment D.left_since g.met.D.Disk.counts_now (disk_of store) c.close-disk.result (records_of store)
          (stays_changed D.is_told D.kept D.moment D.left_since (disk_of store) c.close-disk.result (records_of store) c.close-disk.ensures store.keeps
          (λ disk image told left. g.met.D.Disk.only_now disk image told left)))
    ]
