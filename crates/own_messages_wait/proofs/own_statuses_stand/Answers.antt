-- own statuses stand
use Rattle.own_messages_wait.proofs.OwnStatuses.{stands}
use Rattle.own_messages_wait.proofs.own_statuses_stand.Goals as goal

pub returns : goal.returns
returns c = stands
