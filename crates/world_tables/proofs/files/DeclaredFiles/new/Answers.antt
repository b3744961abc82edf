use Rattle.std.proofs.Common.{refl}
use Rattle.world_spec.specs.World.{file_in}
use Rattle.world_tables.proofs.files.DeclaredFiles.new.Goals as goal

pub invariant_of-result : goal.invariant_of-result
unfolding file_in
invariant_of-result c = λ number. rw (c.new-2.ensures.empty, c.new.ensures.items) refl
