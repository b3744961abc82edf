use Rattle.std.proofs.Common.{◌≡◌, ◌-◌, length, take}
use Rattle.xt_fields.specs.BasicFields.{list_at}
use Rattle.xt_wire.specs.IdFields.{node_at}
use Rattle.xt_fields.proofs.Loops.{with_front}
use Rattle.replica_records.proofs.reading.node_list.Given as goal

-- what was read and what is still read are the whole list
abbrev pub invariant-loop-place : goal.invariant-loop-place
invariant-loop-place l = (length l.nodes ≡ 9) × (with_front (take l.place l.nodes) (list_at node_at (l.count - l.place) l.reader) ≡ list_at node_at l.count l.initial.reader)
