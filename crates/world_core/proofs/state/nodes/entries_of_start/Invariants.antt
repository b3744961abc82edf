use Rattle.std.proofs.Common.{◌≡◌, ◌++◌, map, take}
use Rattle.world_spec.specs.Lines.{file_entry}
use Rattle.world_core.proofs.state.nodes.entries_of_start.Given as goal

abbrev pub invariant-loop-known : goal.invariant-loop-known
invariant-loop-known l = l.entries.items ≡ l.initial.entries.items ++ map file_entry (take l.known-index l.left)
