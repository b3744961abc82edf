use Rattle.std.proofs.Common.{◌≡◌, ◌-◌}
use Rattle.xt_fields.specs.BasicFields.{list_at}
use Rattle.xt_fields.specs.BasicFields.{text_at}
use Rattle.xt_fields.proofs.Loops.{with_front}
use Rattle.xt_frames.proofs.answers.name_list.Given as goal

-- what was read and what is still read are the whole list
abbrev pub invariant-loop : goal.invariant-loop
invariant-loop l = with_front l.names (list_at (text_at 255) (l.count - l.counter) l.fields) ≡ list_at (text_at 255) l.count l.initial.fields
