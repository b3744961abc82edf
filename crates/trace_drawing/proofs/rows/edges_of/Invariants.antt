use Rattle.std.proofs.Common.{◌≡◌, ◌+◌}
use Rattle.trace_spans.specs.Listed.{IsListOf}
use Rattle.trace_drawing.specs.Edges.{edge_at}
use Rattle.trace_drawing.proofs.rows.edges_of.Given as goal

-- the edges so far are known
abbrev pub invariant-loop-height : goal.invariant-loop-height
invariant-loop-height l =
    (l.edge ≡ edge_at l.top l.heights l.height-index)
    × IsListOf (l.height-index + 1) (edge_at l.top l.heights) l.edges.items
