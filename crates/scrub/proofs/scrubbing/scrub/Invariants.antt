use Rattle.std.proofs.Common.{length}
use Rattle.scrub.proofs.Reports.{HasGoneOn}
use Rattle.scrub.proofs.scrubbing.scrub.Given as goal

-- the report on the items before those that are left
abbrev pub invariant-loop-rest : goal.invariant-loop-rest
invariant-loop-rest g l = HasGoneOn g.B.Bodies.agrees g.B.Bodies.fault_count l.initial.bodies l.bodies l.items l.rest l.report.items

abbrev pub decreases-loop-rest : goal.decreases-loop-rest
decreases-loop-rest g l = length l.rest
