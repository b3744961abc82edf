use Rattle.std.proofs.Common.{◌≡◌, length}
use Rattle.time_line.specs.TimeLine.{first_times}
use Rattle.trace_drawing.proofs.drawing.drift_of.Given as goal

-- the rest gives first the times that the whole gives first
abbrev pub invariant-loop-rest : goal.invariant-loop-rest
invariant-loop-rest l = first_times l.rest ≡ first_times l.fn.entries

abbrev pub decreases-loop-rest : goal.decreases-loop-rest
decreases-loop-rest l = length l.rest
