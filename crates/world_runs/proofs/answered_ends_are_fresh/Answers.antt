-- the order of beginnings, answers and ends
use Rattle.world_runs.proofs.Fresh.{answered_fresh}
use Rattle.world_runs.proofs.answered_ends_are_fresh.Goals as goal

pub returns : goal.returns
returns c = answered_fresh
