use Rattle.std.proofs.Common.{◌≡◌, ◌-◌}
use Rattle.xt_fields.specs.BasicFields.{list_at}
use Rattle.xt_wire.specs.FileFields.{session_at}
use Rattle.xt_fields.proofs.Loops.{with_front}
use Rattle.xt_wire.proofs.file.session_list.Given as goal

-- what was read and what is still read are the whole list
abbrev pub invariant-loop : goal.invariant-loop
invariant-loop l = with_front l.list (list_at session_at (l.count - l.counter) l.fields) ≡ list_at session_at l.count l.initial.fields
