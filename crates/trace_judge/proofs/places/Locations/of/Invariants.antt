use Rattle.std.proofs.Common.{◌≡◌, ℕ, length}
use Rattle.std.specs.Option.{option_or}
use Rattle.time_line.specs.TimeLine.{location_in}
use Rattle.trace_judge.specs.Deals.{location_at}
use Rattle.trace_judge.proofs.places.Locations.of.Given as goal

-- the locations so far, and those of the rest
abbrev pub invariant-loop-rest : goal.invariant-loop-rest
invariant-loop-rest l = (file : ℕ) → option_or (location_at l.locations.rows file) (location_in file l.rest) ≡ location_in file l.fn.entries

abbrev pub decreases-loop-rest : goal.decreases-loop-rest
decreases-loop-rest l = length l.rest
