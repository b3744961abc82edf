use Rattle.world_safety.proofs.Runs.{runs_are_runs, steps_are_runs}
use Rattle.world_safety.proofs.files.files_are_runs.Goals as goal

pub returns : goal.returns
returns c = record { whole = runs_are_runs; steps = steps_are_runs }
