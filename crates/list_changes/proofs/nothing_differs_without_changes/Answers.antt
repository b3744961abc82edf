use Rattle.list_changes.proofs.Plain.{step_same, records_same}
use Rattle.list_changes.proofs.nothing_differs_without_changes.Goals as goal

pub returns-clause-steps : goal.returns-clause-steps
returns-clause-steps c = step_same

pub returns-clause-records : goal.returns-clause-records
returns-clause-records c = records_same
