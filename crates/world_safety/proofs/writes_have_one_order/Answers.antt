-- One of the clauses.
use Rattle.time_line.specs.Verdicts.{one_order}
use Rattle.world_safety.proofs.Whole.{always}
use Rattle.world_safety.proofs.writes_have_one_order.Goals as goal

pub returns : goal.returns
returns c = always one_order
