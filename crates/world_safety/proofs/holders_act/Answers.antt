-- One of the clauses.
use Rattle.time_line.specs.Verdicts.{acting}
use Rattle.world_safety.proofs.Whole.{always}
use Rattle.world_safety.proofs.holders_act.Goals as goal

pub returns : goal.returns
returns c = always acting
