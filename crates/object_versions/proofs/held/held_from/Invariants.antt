use Rattle.std.proofs.Common.{◌≡◌, take}
use Rattle.xt_protocol.specs.Stamps.{held_from}
use Rattle.object_versions.proofs.held.held_from.Given as goal

-- the versions so far are held
abbrev pub invariant-loop-version : goal.invariant-loop-version
invariant-loop-version l = l.held ≡ held_from (take l.version-index l.versions)
