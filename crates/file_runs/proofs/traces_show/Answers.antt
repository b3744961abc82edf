-- Trace and entries are walked together.
use Rattle.file_runs.proofs.Shown.{show}
use Rattle.file_runs.proofs.traces_show.Goals as goal

pub returns : goal.returns
returns c = show
