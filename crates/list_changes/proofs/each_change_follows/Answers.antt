use Rattle.list_changes.proofs.Following.{step_follows}
use Rattle.list_changes.proofs.each_change_follows.Goals as goal

pub returns : goal.returns
returns c = step_follows
