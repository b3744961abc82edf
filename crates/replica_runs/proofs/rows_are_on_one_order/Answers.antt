-- The last world stands for one whose marks fit.
use Rattle.replica_runs.specs.HeadSteps.{after_turns}
use Rattle.replica_runs.proofs.HeadLine.{entries_fit_there, order_of_changes, issues_first_there}
use Rattle.replica_runs.proofs.HeadRun.{turns_there, begins_there}
use Rattle.replica_runs.proofs.rows_are_on_one_order.Goals as goal

pub returns-clause-one_order : goal.returns-clause-one_order
returns-clause-one_order c stripe ops members start w turns some begins at may =
    entries_fit_there stripe ops start members (after_turns w turns)
    (turns_there stripe some ops members start w turns may (begins_there stripe some ops members start w begins at))

pub returns-clause-issued : goal.returns-clause-issued
returns-clause-issued c stripe ops members start w turns some begins at may =
    issues_first_there stripe ops start members (after_turns w turns)
    (turns_there stripe some ops members start w turns may (begins_there stripe some ops members start w begins at))

pub returns-clause-changes : goal.returns-clause-changes
returns-clause-changes c stripe ops members start w turns some begins at may =
    order_of_changes stripe ops start members (after_turns w turns)
    (turns_there stripe some ops members start w turns may (begins_there stripe some ops members start w begins at))
