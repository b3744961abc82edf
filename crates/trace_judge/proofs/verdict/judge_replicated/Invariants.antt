use Rattle.std.proofs.Common.{◌+◌, length}
use Rattle.trace_judge.proofs.Walk.{IsJudged}
use Rattle.trace_judge.proofs.verdict.judge_replicated.Given as goal

abbrev pub invariant-loop-place : goal.invariant-loop-place
invariant-loop-place l =
    IsJudged l.trace-inside.drift l.fn.stripe l.fn.file l.trace-inside.entries.now l.walk.mine.now l.walk.common.now l.judging l.placed

abbrev pub decreases-loop-place : goal.decreases-loop-place
decreases-loop-place l = length l.walk.mine.now + length l.walk.common.now
