-- every run keeps what it acted for
use Rattle.world_runs.proofs.EndRuns.{runs_acts_begun, parts_acts_begun}
use Rattle.world_runs.proofs.acts_have_begun.Goals as goal

pub returns : goal.returns
returns c = record { whole = runs_acts_begun; part = parts_acts_begun }
