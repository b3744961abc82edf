use Rattle.std.proofs.Common.{◌≡◌, take, map}
use Rattle.xt_protocol.specs.Primaries.{unknown_peer}
use Rattle.replica_primary.proofs.peers.unknown_peers.Given as goal

abbrev pub invariant-loop-node : goal.invariant-loop-node
invariant-loop-node l = l.peers ≡ map unknown_peer (take l.node-index l.nodes)
