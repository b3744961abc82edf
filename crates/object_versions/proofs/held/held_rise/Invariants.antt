use Rattle.std.proofs.Common.{◌≡◌, length}
use Rattle.object_versions.specs.Rising.{held_rise}
use Rattle.object_versions.proofs.held.held_rise.Given as goal

-- what is left rises exactly where all do
abbrev pub invariant-loop-rest : goal.invariant-loop-rest
invariant-loop-rest l = held_rise l.rest ≡ held_rise l.versions

abbrev pub decreases-loop-rest : goal.decreases-loop-rest
decreases-loop-rest l = length l.rest
