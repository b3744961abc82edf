-- every run keeps what it reported
use Rattle.world_runs.proofs.EndRuns.{runs_answered, parts_answered}
use Rattle.world_runs.proofs.ends_are_answered.Goals as goal

pub returns : goal.returns
returns c = record { whole = runs_answered; part = parts_answered }
