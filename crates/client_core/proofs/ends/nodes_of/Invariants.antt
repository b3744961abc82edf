use Rattle.std.proofs.Common.{◌≡◌, take, map}
use Rattle.client_core.proofs.ends.nodes_of.Given as goal

abbrev pub invariant-loop-row : goal.invariant-loop-row
invariant-loop-row l = l.nodes ≡ map (λ row. row.node) (take l.row-index l.rows)
