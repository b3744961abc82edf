use Rattle.world_safety.proofs.Leaders.{steps_may, leaders_go_on, leaders_stop}
use Rattle.world_safety.proofs.files.steps_may_come.Goals as goal

pub returns : goal.returns
returns c = record { may = steps_may; leaders = leaders_go_on; stopped = leaders_stop }
