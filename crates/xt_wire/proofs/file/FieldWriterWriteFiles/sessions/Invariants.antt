use Rattle.std.proofs.Common.{◌≡◌, ◌++◌, take}
use Rattle.std.specs.List.{flat_map}
use Rattle.xt_wire.specs.FileFields.{session_bytes}
use Rattle.xt_wire.proofs.file.FieldWriterWriteFiles.sessions.Given as goal

-- those so far stand after the count
abbrev pub invariant-loop-entry : goal.invariant-loop-entry
invariant-loop-entry l = l.self ≡ l.initial.self ++ flat_map session_bytes (take l.entry-index l.list)
