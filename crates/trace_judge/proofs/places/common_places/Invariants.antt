use Rattle.std.proofs.Common.{◌≡◌, ◌++◌, ◌+◌, length}
use Rattle.judging.specs.Dealt.{is_common}
use Rattle.trace_judge.specs.Deals.{places_from}
use Rattle.trace_judge.proofs.places.common_places.Given as goal

-- the places so far, and those of the rest
abbrev pub invariant-loop-rest : goal.invariant-loop-rest
invariant-loop-rest l =
    record {
      noted : l.places.items ++ places_from is_common l.place l.rest ≡ places_from is_common 0 l.fn.entries;
      counted : l.place + length l.rest ≡ length l.fn.entries;
    }

abbrev pub decreases-loop-rest : goal.decreases-loop-rest
decreases-loop-rest l = length l.rest
