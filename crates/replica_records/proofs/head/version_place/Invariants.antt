use Rattle.std.proofs.Common.{◌≡◌, ◌++◌, take, drop}
use Rattle.xt_base.specs.declared.ids.Stamp.{Stamp}
use Rattle.xt_protocol.specs.Heads.{with_version}
use Rattle.replica_records.proofs.head.version_place.Given as goal

abbrev pub invariant-loop-place : goal.invariant-loop-place
invariant-loop-place l =
    (version : Stamp) → with_version l.versions l.object version ≡ take l.place l.versions ++ with_version (drop l.place l.versions) l.object version
