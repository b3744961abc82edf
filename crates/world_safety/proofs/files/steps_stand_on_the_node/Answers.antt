use Rattle.world_safety.proofs.May.{steps_stand}
use Rattle.world_safety.proofs.files.steps_stand_on_the_node.Goals as goal

pub returns : goal.returns
returns c = steps_stand
