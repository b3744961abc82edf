use Rattle.std.proofs.Common.{◌≡◌, ◌∷◌, take}
use Rattle.xt_protocol.specs.Serving.{current_others}
use Rattle.replica_primary.proofs.serving.receivers.Given as goal

abbrev pub invariant-loop-peer : goal.invariant-loop-peer
invariant-loop-peer l = l.nodes ≡ l.place.node ∷ current_others l.place (take l.peer-index l.peers)
