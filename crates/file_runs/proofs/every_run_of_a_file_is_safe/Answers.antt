-- The run's entries, and what its trace reports of them.
use Rattle.file_runs.proofs.TraceRuns.{runs}
use Rattle.file_runs.proofs.every_run_of_a_file_is_safe.Goals as goal

pub returns : goal.returns
returns c = runs
