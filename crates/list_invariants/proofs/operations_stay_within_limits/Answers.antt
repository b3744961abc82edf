use Rattle.osd_invariants.specs.OpenAsks.{IsWithinLimits}
use Rattle.list_invariants.proofs.Gives.{asks_are, wake_asks_are}
use Rattle.list_invariants.proofs.operations_stay_within_limits.Goals as goal

pub returns : goal.returns
returns c = record { message = asks_are IsWithinLimits; wake = wake_asks_are IsWithinLimits }
