use Rattle.std.proofs.Common.{length}
use Rattle.object_store.specs.Access.{records_of}
use Rattle.scrub_job.proofs.Checked.{HasGoneOn}
use Rattle.scrub_job.proofs.checking.report_on.Given as goal

-- what was found of the items before those that are left
abbrev pub invariant-loop-rest : goal.invariant-loop-rest
invariant-loop-rest g l = HasGoneOn g.D.Disk.is_told (records_of l.store) l.items l.rest l.report.items

abbrev pub decreases-loop-rest : goal.decreases-loop-rest
decreases-loop-rest g l = length l.rest
