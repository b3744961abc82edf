use Rattle.list_changes.proofs.Versions.{step_moves}
use Rattle.list_changes.proofs.versions_rise_by_one.Goals as goal

pub returns : goal.returns
returns c = step_moves
