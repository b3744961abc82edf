use Rattle.world_runs.proofs.CloseClocks.{runs_close, steps_close}
use Rattle.world_runs.proofs.clocks_stay_close.Goals as goal

pub returns : goal.returns
returns c = record { whole = runs_close; steps = steps_close }
