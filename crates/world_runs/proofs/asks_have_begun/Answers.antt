-- every run keeps what was asked
use Rattle.world_runs.proofs.EndRuns.{runs_begun, steps_begun}
use Rattle.world_runs.proofs.asks_have_begun.Goals as goal

pub returns : goal.returns
returns c = record { whole = runs_begun; steps = steps_begun }
