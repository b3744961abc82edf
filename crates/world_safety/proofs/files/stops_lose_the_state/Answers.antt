use Rattle.world_safety.proofs.Events.{stops_show}
use Rattle.world_safety.proofs.files.stops_lose_the_state.Goals as goal

pub returns : goal.returns
returns c = stops_show
