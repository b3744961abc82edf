use Rattle.std.proofs.Common.{◌≡◌, take}
use Rattle.std.specs.Prelude.{flat_map}
use Rattle.replica_records.specs.Heads.{named_by}
use Rattle.replica_records.proofs.keeping.heads.Given as goal

-- the heads so far have named theirs
abbrev pub invariant-loop-row : goal.invariant-loop-row
invariant-loop-row l = l.keep ≡ flat_map named_by (take l.row-index l.row-items)
