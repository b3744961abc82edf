use Rattle.std.proofs.Common.{◌≡◌, Ok, map, take}
use Rattle.trace_audit.proofs.verdict.all_given.Given as goal

-- the values so far
abbrev pub invariant-loop-result : goal.invariant-loop-result
invariant-loop-result l = take l.result-index l.results ≡ map Ok l.verdicts.items
