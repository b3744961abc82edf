use Rattle.world_safety.proofs.Nodes.{plans_rest, ticks_rest, declared_rest}
use Rattle.world_safety.proofs.files.what_does_not_show.Goals as goal

pub returns : goal.returns
returns c = record { plans = plans_rest; ticks = ticks_rest; declared = declared_rest }
