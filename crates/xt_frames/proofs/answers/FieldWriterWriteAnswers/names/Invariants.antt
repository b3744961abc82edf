use Rattle.std.proofs.Common.{◌≡◌, ◌++◌, take}
use Rattle.std.specs.List.{flat_map}
use Rattle.xt_fields.specs.BasicFields.{text_bytes}
use Rattle.xt_frames.proofs.answers.FieldWriterWriteAnswers.names.Given as goal

-- those so far stand after the count
abbrev pub invariant-loop-name : goal.invariant-loop-name
invariant-loop-name l = l.self ≡ l.initial.self ++ flat_map text_bytes (take l.name-index l.names)
