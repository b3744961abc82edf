use Rattle.std.proofs.Common.{◌≡◌, take}
use Rattle.xt_protocol.specs.Primaries.{nodes_of}
use Rattle.replica_primary.proofs.drawing.nodes_of.Given as goal

abbrev pub invariant-loop-peer : goal.invariant-loop-peer
invariant-loop-peer l = l.nodes ≡ nodes_of (take l.peer-index l.peers)
