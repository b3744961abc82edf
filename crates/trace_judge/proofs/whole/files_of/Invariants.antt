use Rattle.std.proofs.Common.{◌≡◌, ◌++◌, length}
use Rattle.judging.specs.Audit.{files_of}
use Rattle.trace_judge.proofs.whole.files_of.Given as goal

-- the files so far, and those of the rest
abbrev pub invariant-loop-rest : goal.invariant-loop-rest
invariant-loop-rest l = l.files.items ++ files_of l.rest ≡ files_of l.fn.entries

abbrev pub decreases-loop-rest : goal.decreases-loop-rest
decreases-loop-rest l = length l.rest
