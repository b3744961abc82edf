use Rattle.std.proofs.Common.{◌≡◌, take, map}
use Rattle.std.specs.Prelude.{is_some}
use Rattle.trace_spans.proofs.spans.are_told.Given as goal

-- the flags so far say it
abbrev pub invariant-loop-value : goal.invariant-loop-value
invariant-loop-value l = l.flags.items ≡ map is_some (take l.value-index l.values)
