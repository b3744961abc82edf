use Rattle.osd_limits.proofs.Steps
use Rattle.osd_limits.proofs.starts_run_on_their_records.Goals as goal

pub returns : goal.returns
returns c = Steps.started
