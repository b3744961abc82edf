use Rattle.std.proofs.Common.{◌≡◌, take}
use Rattle.world_spec.specs.NodeSteps.{files_marked}
use Rattle.world_step.proofs.entries.files_of.Given as goal

abbrev pub invariant-loop-mark : goal.invariant-loop-mark
invariant-loop-mark l = l.files.items ≡ files_marked (take l.mark-index l.marks)
