use Rattle.std.proofs.Common.{◌≡◌, ◌++◌, take, filter}
use Rattle.xt_protocol.specs.Asks.{tells_each}
use Rattle.xt_protocol.specs.Overdue.{is_due}
use Rattle.osd_requests.proofs.open.tell_due_of.Given as goal

abbrev pub invariant-loop-ask : goal.invariant-loop-ask
invariant-loop-ask l = l.outs ≡ l.initial.outs ++ tells_each l.node l.file (filter (is_due l.now) (take l.ask-index l.asks)) l.reply
