use Rattle.std.proofs.Common.{◌≡◌, ◌≤◌, ◌++◌, ◌+◌, ◌*◌, ◌^◌, length}
use Rattle.std.specs.List.{sum_by}
use Rattle.judging.specs.Dealt.{ticks_of}
use Rattle.trace_judge.specs.Deals.{ticks_from}
use Rattle.trace_judge.proofs.places.ticks_before.Given as goal

-- the ticks so far, and those before each of the rest
abbrev pub invariant-loop-rest : goal.invariant-loop-rest
invariant-loop-rest l =
    record {
      noted : l.ticks.items ++ ticks_from l.sum l.rest ≡ ticks_from 0 l.fn.entries;
      summed : l.sum + sum_by ticks_of l.rest ≡ sum_by ticks_of l.fn.entries;
      few : l.sum + length l.rest * 2 ^ 64 ≤ length l.fn.entries * 2 ^ 64;
    }

abbrev pub decreases-loop-rest : goal.decreases-loop-rest
decreases-loop-rest l = length l.rest
