use Rattle.std.proofs.Common.{length}
use Rattle.world_nodes.proofs.nodes.Nodes.+first_stranger.Given as goal

abbrev pub decreases-first_stranger : goal.decreases-first_stranger
decreases-first_stranger g l = length l.members.now
