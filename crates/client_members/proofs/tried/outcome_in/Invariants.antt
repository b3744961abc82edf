use Rattle.std.proofs.Common.{◌≡◌, drop}
use Rattle.client_rows.specs.Clients.{outcome_in}
use Rattle.client_members.proofs.tried.outcome_in.Given as goal

abbrev pub invariant-loop-member : goal.invariant-loop-member
invariant-loop-member l = outcome_in l.tried l.node ≡ outcome_in (drop l.member-index l.tried) l.node
