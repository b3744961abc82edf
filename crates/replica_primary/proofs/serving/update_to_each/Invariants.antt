use Rattle.std.proofs.Common.{◌≡◌, take}
use Rattle.xt_messages.specs.declared.message.Payload.TheVariants as payload
use Rattle.xt_protocol.specs.Turns.{to_each}
use Rattle.replica_primary.proofs.serving.update_to_each.Given as goal

abbrev pub invariant-loop-to : goal.invariant-loop-to
invariant-loop-to l = l.outs ≡ to_each l.place.node (take l.to-index l.nodes) (payload.Update l.place.file l.update)
