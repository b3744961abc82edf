use Rattle.listed_leases.proofs.Acts.{step_marks, step_rec, wake_marks, wake_rec}
use Rattle.listed_leases.proofs.acts_are_shown.Goals as goal

pub returns : goal.returns
returns c = record { marks = step_marks; rec = step_rec; wake_marks = wake_marks; wake_rec = wake_rec }
