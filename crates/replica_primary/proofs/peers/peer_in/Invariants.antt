use Rattle.std.proofs.Common.{◌≡◌, drop}
use Rattle.xt_protocol.specs.Primaries.{peer_in}
use Rattle.replica_primary.proofs.peers.peer_in.Given as goal

abbrev pub invariant-loop-peer : goal.invariant-loop-peer
invariant-loop-peer l = peer_in l.peers l.node ≡ peer_in (drop l.peer-index l.peers) l.node
