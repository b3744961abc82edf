use Rattle.std.proofs.Common.{◌≡◌, take, flat_map}
use Rattle.xt_protocol.specs.Primaries.{if_any}
use Rattle.xt_protocol.specs.Serving.{resend}
use Rattle.replica_primary.proofs.waking.again_to_each.Given as goal

abbrev pub invariant-loop-peer : goal.invariant-loop-peer
invariant-loop-peer l = l.outs ≡ flat_map (λ p. if_any l.place.node p.node (resend l.place l.epoch l.issued p.node p.state)) (take l.peer-index l.peers)
