-- What the clauses say of a trace, they say of each front.
use Rattle.world_safety.proofs.Fronts.{front_safe, never_broken}
use Rattle.world_safety.proofs.safe_traces_are_not_broken.Goals as goal

pub returns-clause-fronts : goal.returns-clause-fronts
returns-clause-fronts c = front_safe

pub returns-clause-nowhere : goal.returns-clause-nowhere
returns-clause-nowhere c = never_broken
