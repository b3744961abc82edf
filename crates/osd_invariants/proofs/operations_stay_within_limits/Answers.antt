use Rattle.osd_invariants.specs.OpenAsks.{IsWithinLimits}
use Rattle.osd_invariants.proofs.OpenAsks
use Rattle.osd_invariants.proofs.operations_stay_within_limits.Goals as goal

pub returns : goal.returns
returns c = record {
  start = λ awake row. OpenAsks.none_are IsWithinLimits;
  expiry = λ site s are. OpenAsks.expired_are IsWithinLimits site s are;
  message = λ site s from content are of. OpenAsks.step_are IsWithinLimits site s from content are of;
  wake = λ site s are. OpenAsks.wake_are IsWithinLimits site s are;
}
