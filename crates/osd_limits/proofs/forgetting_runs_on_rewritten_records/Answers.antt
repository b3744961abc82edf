use Rattle.osd_limits.proofs.Forgets
use Rattle.osd_limits.proofs.forgetting_runs_on_rewritten_records.Goals as goal

pub returns : goal.returns
returns c = Forgets.forgot
