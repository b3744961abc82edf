use Rattle.std.proofs.Common.{◌≡◌, take}
use Rattle.scrub.specs.Report.{seals_of}
use Rattle.scrub_job.proofs.sealing.seals_of.Given as goal

-- the seals of the bodies so far
abbrev pub invariant-loop-i : goal.invariant-loop-i
invariant-loop-i l = l.seals.items ≡ seals_of (take l.i l.items) (take l.i l.report)
