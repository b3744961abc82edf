use Rattle.std.proofs.Common.{◌≡◌, ◌++◌, take}
use Rattle.std.specs.List.{flat_map}
use Rattle.xt_frames.specs.RegistryAnswers.{row_bytes}
use Rattle.xt_frames.proofs.answers.FieldWriterWriteAnswers.rows.Given as goal

-- those so far stand after the count
abbrev pub invariant-loop-row : goal.invariant-loop-row
invariant-loop-row l = l.self ≡ l.initial.self ++ flat_map row_bytes (take l.row-index l.rows)
