use Rattle.world_limits.proofs.Worlds
use Rattle.world_limits.proofs.steps_fit.Goals as goal

pub returns : goal.returns
returns c = Worlds.do_steps_fit
