use Rattle.std.proofs.Common.{◌≡◌, take}
use Rattle.replica_primary.proofs.copying.copy_peers.Given as goal

-- the peers so far are made
abbrev pub invariant-loop-peer : goal.invariant-loop-peer
invariant-loop-peer l = l.made ≡ take l.peer-index l.peers
