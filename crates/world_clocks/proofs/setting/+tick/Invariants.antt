use Rattle.std.proofs.Common.{length}
use Rattle.world_clocks.proofs.setting.+tick.Given as goal

abbrev pub decreases-tick : goal.decreases-tick
decreases-tick g l = length l.hosts.now
