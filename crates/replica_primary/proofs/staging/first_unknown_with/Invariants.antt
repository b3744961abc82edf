use Rattle.std.proofs.Common.{◌≡◌, None, take}
use Rattle.xt_protocol.specs.Stamps.{with_held}
use Rattle.xt_protocol.specs.ReplicaRows.{first_missing}
use Rattle.replica_primary.proofs.staging.first_unknown_with.Given as goal

-- each version so far is known
abbrev pub invariant-loop-place : goal.invariant-loop-place
invariant-loop-place l = first_missing (with_held l.known l.staged) (take l.place l.versions) ≡ None
