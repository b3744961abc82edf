use Rattle.std.proofs.Common.{◌≡◌, ◌≤◌, length, drop}
use Rattle.trace_judge.specs.Found.{least_verdict}
use Rattle.trace_judge.proofs.whole.least.Given as goal

-- the least of those from there on
abbrev pub invariant-loop-count : goal.invariant-loop-count
invariant-loop-count l = (l.count ≤ length l.verdicts) × (l.found ≡ least_verdict (drop l.count l.verdicts))

abbrev pub decreases-loop-count : goal.decreases-loop-count
decreases-loop-count l = l.count
