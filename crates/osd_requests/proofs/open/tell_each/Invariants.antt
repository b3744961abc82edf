use Rattle.std.proofs.Common.{◌≡◌, ◌++◌, take}
use Rattle.xt_protocol.specs.Asks.{tells_each}
use Rattle.osd_requests.proofs.open.tell_each.Given as goal

abbrev pub invariant-loop-ask : goal.invariant-loop-ask
invariant-loop-ask l = l.outs ≡ l.initial.outs ++ tells_each l.node l.file (take l.ask-index l.asks) l.reply
