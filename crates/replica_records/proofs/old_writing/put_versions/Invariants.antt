use Rattle.std.proofs.Common.{◌≡◌, ◌++◌, take}
use Rattle.std.specs.List.{flat_map}
use Rattle.replica_records.specs.OldFields.{object_version_bytes}
use Rattle.replica_records.proofs.old_writing.put_versions.Given as goal

-- those so far stand after the count
abbrev pub invariant-loop-entry : goal.invariant-loop-entry
invariant-loop-entry l = l.writer ≡ l.initial.writer ++ flat_map object_version_bytes (take l.entry-index l.list)
