use Rattle.std.proofs.Common.{◌≡◌, take}
use Rattle.xt_protocol.specs.Choice.{difference}
use Rattle.osd_decisions.proofs.choosing.difference.Given as goal

-- what is missing of the versions so far
abbrev pub invariant-loop-version : goal.invariant-loop-version
invariant-loop-version l = l.missing ≡ difference l.have (take l.version-index l.version-items)
