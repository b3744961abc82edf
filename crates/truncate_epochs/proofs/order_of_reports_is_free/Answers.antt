use Rattle.truncate_epochs.proofs.Joins
use Rattle.truncate_epochs.proofs.order_of_reports_is_free.Goals as goal

pub returns : goal.returns
returns c = Joins.joined-same
