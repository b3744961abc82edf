use Rattle.lease_runs.proofs.ActSteps
use Rattle.lease_runs.proofs.acts_are_shown.Goals as goal

pub returns : goal.returns
returns c = record { marks = ActSteps.step_marks; rec = ActSteps.step_rec; wake_marks = ActSteps.wake_step_marks; wake_rec = ActSteps.wake_step_rec }
