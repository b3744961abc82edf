use Rattle.world_runs.proofs.Runs
use Rattle.world_runs.proofs.worlds_are_in_order.Goals as goal

pub returns : goal.returns
returns c = record { whole = Runs.runs_in_order; steps = Runs.steps_in_order }
