use Rattle.std.proofs.Common.{◌≡◌, None, take}
use Rattle.xt_protocol.specs.ReplicaRows.{first_missing}
use Rattle.peer_searches.proofs.unknown.first_unknown.Given as goal

-- each version so far is known
abbrev pub invariant-loop-place : goal.invariant-loop-place
invariant-loop-place l = first_missing l.known (take l.place l.versions) ≡ None
