-- One of the clauses.
use Rattle.time_line.specs.Verdicts.{once}
use Rattle.world_safety.proofs.Whole.{always}
use Rattle.world_safety.proofs.writes_stand_once.Goals as goal

pub returns : goal.returns
returns c = always once
