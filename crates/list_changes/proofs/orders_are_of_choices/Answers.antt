use Rattle.list_changes.proofs.Keeping.{step_keeps, step_ordered}
use Rattle.list_changes.proofs.orders_are_of_choices.Goals as goal

pub returns-clause-keeps : goal.returns-clause-keeps
returns-clause-keeps c = step_keeps

pub returns-clause-sends : goal.returns-clause-sends
returns-clause-sends c = step_ordered
