-- One of the clauses.
use Rattle.time_line.specs.Verdicts.{shown}
use Rattle.world_safety.proofs.Whole.{always}
use Rattle.world_safety.proofs.answers_show_the_file.Goals as goal

pub returns : goal.returns
returns c = always shown
