use Rattle.std.proofs.Common.{length}
use Rattle.world_clocks.proofs.readings.+least_where.Given as goal

abbrev pub decreases-least_where : goal.decreases-least_where
decreases-least_where g l = length l.hosts.now
