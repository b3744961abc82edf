use Rattle.std.proofs.Common.{◌≡◌, length, map}
use Rattle.xt_messages.specs.Limits.{rise}
use Rattle.xt_wire.proofs.file.objects_rise.Given as goal

-- what is left rises exactly where all do
abbrev pub invariant-loop-rest : goal.invariant-loop-rest
invariant-loop-rest l = rise (map (λ v. v.object) l.rest) ≡ rise (map (λ v. v.object) l.versions)

abbrev pub decreases-loop-rest : goal.decreases-loop-rest
decreases-loop-rest l = length l.rest
