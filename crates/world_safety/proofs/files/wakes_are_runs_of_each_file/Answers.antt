use Rattle.world_safety.proofs.Steps.{wakes_run}
use Rattle.world_safety.proofs.files.wakes_are_runs_of_each_file.Goals as goal

pub returns : goal.returns
returns c = wakes_run
