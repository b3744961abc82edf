use Rattle.std.proofs.Common.{◌≡◌, ◌++◌, take, drop}
use Rattle.xt_protocol.specs.declared.states.PeerState.{PeerState}
use Rattle.xt_protocol.specs.Primaries.{peer_in, with_peer}
use Rattle.replica_primary.proofs.peers.place_of.Given as goal

abbrev pub invariant-loop-place : goal.invariant-loop-place
invariant-loop-place l =
    record {
      put : (state : PeerState) → with_peer l.peers l.node state ≡ take l.place l.peers ++ with_peer (drop l.place l.peers) l.node state;
      found : peer_in l.peers l.node ≡ peer_in (drop l.place l.peers) l.node;
    }
