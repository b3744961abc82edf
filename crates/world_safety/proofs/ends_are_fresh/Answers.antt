-- One of the clauses.
use Rattle.time_line.specs.Verdicts.{fresh}
use Rattle.world_safety.proofs.Whole.{always}
use Rattle.world_safety.proofs.ends_are_fresh.Goals as goal

pub returns : goal.returns
returns c = always fresh
