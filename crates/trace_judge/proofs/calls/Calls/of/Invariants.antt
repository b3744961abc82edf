use Rattle.std.proofs.Common.{◌≡◌, length}
use Rattle.std.specs.Option.{option_or}
use Rattle.xt_base.specs.declared.ids.OpId.{OpId}
use Rattle.time_line.specs.TimeLine.{begun}
use Rattle.trace_judge.specs.Rows.{call_in}
use Rattle.trace_judge.proofs.calls.Calls.of.Given as goal

-- the calls so far, and those of the rest
abbrev pub invariant-loop-rest : goal.invariant-loop-rest
invariant-loop-rest l = (id : OpId) → option_or (call_in l.calls.rows id) (begun id l.rest) ≡ begun id l.fn.entries

abbrev pub decreases-loop-rest : goal.decreases-loop-rest
decreases-loop-rest l = length l.rest
