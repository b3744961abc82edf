use Rattle.std.proofs.Common.{◌≡◌, take}
use Rattle.xt_protocol.specs.Turns.{to_each}
use Rattle.xt_protocol.proofs.turned.to_each.Given as goal

abbrev pub invariant-loop-to : goal.invariant-loop-to
invariant-loop-to l = l.outs ≡ to_each l.from (take l.to-index l.nodes) l.payload
