use Rattle.std.proofs.Common.{◌≡◌, ◌++◌, take}
use Rattle.std.specs.List.{flat_map}
use Rattle.xt_wire.specs.IdFields.{node_bytes}
use Rattle.xt_wire.proofs.file.FieldWriterWriteFiles.members.Given as goal

-- those so far stand after the count
abbrev pub invariant-loop-node : goal.invariant-loop-node
invariant-loop-node l = l.self ≡ l.initial.self ++ flat_map node_bytes (take l.node-index l.nodes)
