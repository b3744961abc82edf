use Rattle.std.proofs.Common.{◌≡◌, ◌++◌, ◌+◌, ℕ, length}
use Rattle.trace_judge.specs.Deals.{is_of, places_from, places_in}
use Rattle.trace_judge.specs.Rows.{call_in}
use Rattle.trace_judge.proofs.places.Places.of.Given as goal

-- the places so far, and those of the rest
abbrev pub invariant-loop-rest : goal.invariant-loop-rest
invariant-loop-rest l =
    record {
      noted : (file : ℕ) → places_in l.places.rows file ++ places_from (is_of (λ id. call_in l.fn.calls.rows id) file) l.place l.rest ≡ places_from (is_of (λ id. call_in l.fn.calls.rows id) file) 0 l.fn.entries;
      counted : l.place + length l.rest ≡ length l.fn.entries;
    }

abbrev pub decreases-loop-rest : goal.decreases-loop-rest
decreases-loop-rest l = length l.rest
