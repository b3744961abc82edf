use Rattle.std.proofs.Common.{◌≡◌, take}
use Rattle.client_rows.specs.Clients.{with_outcome}
use Rattle.client_members.proofs.tried.with_outcome.Given as goal

abbrev pub invariant-loop-member : goal.invariant-loop-member
invariant-loop-member l = l.made ≡ with_outcome (take l.member-index l.tried) l.node l.how
