use Rattle.std.proofs.Common.{◌≡◌, false, take}
use Rattle.world_nodes.specs.Nodes.{has_host}
use Rattle.world_nodes.proofs.nodes.place_of.Given as goal

abbrev pub invariant-loop-place : goal.invariant-loop-place
invariant-loop-place g l = has_host (take l.place l.hosts) l.id.0 ≡ false
