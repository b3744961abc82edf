use Rattle.std.proofs.Common.{◌≡◌, length}
use Rattle.object_versions.specs.Keeping.{bodies_rise}
use Rattle.object_versions.proofs.keeping.bodies_rise.Given as goal

-- what is left rises exactly where all do
abbrev pub invariant-loop-rest : goal.invariant-loop-rest
invariant-loop-rest l = bodies_rise l.rest ≡ bodies_rise l.bodies

abbrev pub decreases-loop-rest : goal.decreases-loop-rest
decreases-loop-rest l = length l.rest
