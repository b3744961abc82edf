use Rattle.std.proofs.Common.{◌≡◌, take, flat_map}
use Rattle.xt_protocol.specs.Primaries.{if_any}
use Rattle.xt_protocol.specs.Serving.{gather_unknown}
use Rattle.replica_primary.proofs.waking.gathers.Given as goal

abbrev pub invariant-loop-peer : goal.invariant-loop-peer
invariant-loop-peer l = l.outs ≡ flat_map (λ p. if_any l.place.node p.node (gather_unknown l.place l.epoch p.node p.state)) (take l.peer-index l.peers)
