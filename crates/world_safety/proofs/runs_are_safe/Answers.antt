-- Clause by clause.
use Rattle.world_safety.proofs.Whole.{runs_safe, parts_safe}
use Rattle.world_safety.proofs.runs_are_safe.Goals as goal

pub returns-clause-whole : goal.returns-clause-whole
returns-clause-whole c = runs_safe

pub returns-clause-part : goal.returns-clause-part
returns-clause-part c = parts_safe
