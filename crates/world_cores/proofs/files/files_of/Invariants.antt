use Rattle.std.proofs.Common.{◌≡◌, take}
use Rattle.world_spec.specs.Lines.{files_in}
use Rattle.world_cores.proofs.files.files_of.Given as goal

-- those before this place
abbrev pub invariant-loop-place : goal.invariant-loop-place
invariant-loop-place l = l.files.items ≡ take l.place (files_in l.mrc.state.catalogue)
