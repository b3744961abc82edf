use Rattle.world_runs.proofs.Runs
use Rattle.world_runs.proofs.holders_act.Goals as goal

pub returns : goal.returns
returns c = record { whole = Runs.runs_act; part = Runs.parts_act }
