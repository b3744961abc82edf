use Rattle.std.proofs.Common.{◌≡◌, take}
use Rattle.xt_protocol.specs.Choice.{difference}
use Rattle.replica_primary.proofs.gathering.unheld.Given as goal

-- what is missing of the versions so far
abbrev pub invariant-loop-version : goal.invariant-loop-version
invariant-loop-version l = l.missing ≡ difference l.held (take l.version-index l.version-items)
