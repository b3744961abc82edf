use Rattle.std.proofs.Common.{◌≡◌, ◌++◌}
use Rattle.xt_base.specs.Overlay.{zeros}
use Rattle.object_versions.proofs.bytes.push_zeros.Given as goal

abbrev pub invariant-loop-place : goal.invariant-loop-place
invariant-loop-place l = l.bytes.items ≡ l.initial.bytes.items ++ zeros l._place
