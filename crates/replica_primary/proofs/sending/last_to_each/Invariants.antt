use Rattle.std.proofs.Common.{◌≡◌, take, flat_map}
use Rattle.xt_protocol.specs.Primaries.{if_any, last_sent}
use Rattle.replica_primary.proofs.sending.last_to_each.Given as goal

abbrev pub invariant-loop-peer : goal.invariant-loop-peer
invariant-loop-peer l = l.outs ≡ flat_map (λ p. if_any l.node p.node (last_sent l.file l.epoch p.state)) (take l.peer-index l.peers)
