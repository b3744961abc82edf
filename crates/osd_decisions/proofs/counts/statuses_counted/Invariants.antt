use Rattle.std.proofs.Common.{◌≡◌, ◌≤◌, take}
use Rattle.xt_protocol.specs.Primaries.{statuses_counted}
use Rattle.osd_decisions.proofs.counts.statuses_counted.Given as goal

abbrev pub invariant-loop-peer : goal.invariant-loop-peer
invariant-loop-peer l = record { counted : l.count ≡ statuses_counted (take l.peer-index l.peers); few : l.count ≤ l.peer-index }
