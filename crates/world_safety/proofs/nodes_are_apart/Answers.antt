-- One of the clauses.
use Rattle.time_line.specs.Verdicts.{apart}
use Rattle.world_safety.proofs.Whole.{always}
use Rattle.world_safety.proofs.nodes_are_apart.Goals as goal

pub returns : goal.returns
returns c = always apart
