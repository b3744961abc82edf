use Rattle.std.proofs.Common.{◌≡◌, take}
use Rattle.osd_requests.proofs.open.copy_waiting.Given as goal

-- the items so far are made
abbrev pub invariant-loop-ask : goal.invariant-loop-ask
invariant-loop-ask l = l.made.items ≡ take l.ask-index l.asks
