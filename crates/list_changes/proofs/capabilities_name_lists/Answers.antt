use Rattle.list_changes.specs.Laws.{Passing}
use Rattle.list_changes.proofs.Granted.{step_grants, none_granted}
use Rattle.list_changes.proofs.capabilities_name_lists.Goals as goal

pub returns-clause-none : goal.returns-clause-none
returns-clause-none c test = none_granted (Passing test)

pub returns-clause-step : goal.returns-clause-step
returns-clause-step c test key times s reading happens holds lists = step_grants (Passing test) key times s reading happens holds lists
