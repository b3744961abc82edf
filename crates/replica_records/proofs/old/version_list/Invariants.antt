use Rattle.std.proofs.Common.{◌≡◌, ◌-◌}
use Rattle.xt_fields.specs.BasicFields.{list_at}
use Rattle.replica_records.specs.OldFields.{object_version_at}
use Rattle.xt_fields.proofs.Loops.{with_front}
use Rattle.replica_records.proofs.old.version_list.Given as goal

-- what was read and what is still read are the whole list
abbrev pub invariant-loop : goal.invariant-loop
invariant-loop l = with_front l.list (list_at object_version_at (l.count - l.counter) l.reader) ≡ list_at object_version_at l.count l.initial.reader
