use Rattle.std.proofs.Common.{◌↔◌, length}
use Rattle.std.specs.List.{AllByRecursion}
use Rattle.xt_messages.specs.Limits.{FitsSession}
use Rattle.replica_records.proofs.order.each_session_fits.Given as goal

-- what is left fits exactly where all do
abbrev pub invariant-loop-rest : goal.invariant-loop-rest
invariant-loop-rest l = AllByRecursion FitsSession l.rest ↔ AllByRecursion FitsSession l.sessions

abbrev pub decreases-loop-rest : goal.decreases-loop-rest
decreases-loop-rest l = length l.rest
