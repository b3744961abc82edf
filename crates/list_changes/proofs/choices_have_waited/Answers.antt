use Rattle.list_changes.proofs.Following.{waited, own_choice}
use Rattle.list_changes.proofs.choices_have_waited.Goals as goal

pub returns-clause-waited : goal.returns-clause-waited
returns-clause-waited c = waited

pub returns-clause-own : goal.returns-clause-own
returns-clause-own c = own_choice
