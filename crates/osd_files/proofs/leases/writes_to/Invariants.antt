use Rattle.std.proofs.Common.{◌≡◌, map, take}
use Rattle.xt_base.specs.declared.ids.NodeId.{NodeId}
use Rattle.xt_base.specs.declared.ids.Boot.{Boot}
use Rattle.xt_messages.specs.declared.message.Payload.TheVariants as payload
use Rattle.xt_protocol.specs.Turns.{message}
use Rattle.osd_files.proofs.leases.writes_to.Given as goal

abbrev pub invariant-loop-target : goal.invariant-loop-target
invariant-loop-target l = l.outs ≡ map (λ (target : NodeId × Boot). message l.node target.0 (payload.Write l.file l.ballot target.1 l.lease)) (take l.target-index l.targets)
