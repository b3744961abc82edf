use Rattle.std.proofs.Common.{◌≡◌, map, take}
use Rattle.judging.specs.Pass.{judged}
use Rattle.trace_judge.specs.Found.{verdict_of}
use Rattle.trace_judge.proofs.whole.judge_each.Given as goal

abbrev pub invariant-loop-file : goal.invariant-loop-file
invariant-loop-file l = l.verdicts.items ≡ map (λ file. verdict_of (judged file l.fn.trace)) (take l.file-index l.fn.files)
