use Rattle.world_runs.proofs.Runs
use Rattle.world_runs.proofs.nodes_are_apart.Goals as goal

pub returns : goal.returns
returns c = record { whole = Runs.runs_apart; part = Runs.parts_apart }
