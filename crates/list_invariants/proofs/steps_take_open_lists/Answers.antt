use Rattle.list_invariants.proofs.OpenLists.{step_is}
use Rattle.list_invariants.proofs.steps_take_open_lists.Goals as goal

pub returns : goal.returns
returns c = step_is
