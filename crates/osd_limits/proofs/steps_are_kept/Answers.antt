use Rattle.osd_limits.proofs.Steps
use Rattle.osd_limits.proofs.steps_are_kept.Goals as goal

pub returns : goal.returns
returns c = Steps.steps
