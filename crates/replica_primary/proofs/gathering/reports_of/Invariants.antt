use Rattle.std.proofs.Common.{◌≡◌, take}
use Rattle.xt_protocol.specs.Primaries.{reports_of}
use Rattle.replica_primary.proofs.gathering.reports_of.Given as goal

abbrev pub invariant-loop-peer : goal.invariant-loop-peer
invariant-loop-peer l = l.reports ≡ reports_of (take l.peer-index l.peers)
