use Rattle.world_safety.proofs.Events.{wakes_show}
use Rattle.world_safety.proofs.files.wakes_are_steps_of_each_file.Goals as goal

pub returns : goal.returns
returns c = wakes_show
