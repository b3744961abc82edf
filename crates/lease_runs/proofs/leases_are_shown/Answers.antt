use Rattle.lease_runs.proofs.LeaseSteps
use Rattle.lease_runs.proofs.leases_are_shown.Goals as goal

pub returns : goal.returns
returns c = record { expiry = LeaseSteps.expired_shows; message = LeaseSteps.step_follows; wake = LeaseSteps.wake_wakes }
