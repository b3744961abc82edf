use Rattle.std.proofs.Common.{length}
use Rattle.std.specs.Prelude.{◌↔◌}
use Rattle.std.specs.List.{AllByRecursion}
use Rattle.time_line.specs.Bounds.{FitsAnswered}
use Rattle.schedule_text.proofs.bounds.are_answers.Given as goal

-- the rest decides
abbrev pub invariant-loop-rest : goal.invariant-loop-rest
invariant-loop-rest l = AllByRecursion FitsAnswered l.rest ↔ AllByRecursion FitsAnswered l.fn.answers

abbrev pub decreases-loop-rest : goal.decreases-loop-rest
decreases-loop-rest l = length l.rest
