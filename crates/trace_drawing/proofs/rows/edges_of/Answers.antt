use Rattle.std.proofs.Common.{◌∙◌, ◌+◌, ap, sym, subst, ℕ, get_or}
use Rattle.trace_spans.specs.Listed.{IsListOf}
use Rattle.trace_drawing.specs.Edges.{edge_at}
use Rattle.trace_spans.proofs.Lists.{listed_more}
use Rattle.trace_drawing.proofs.Heights.{edge_more}
use Rattle.trace_drawing.proofs.rows.edges_of.Goals as goal

pub loop-height-preserved : goal.loop-height-preserved
loop-height-preserved c =
    let place = c.loop-height.height-index in
    let edge = ap (λ (n : ℕ). n + get_or c.args.heights.now place 0) c.loop-height.invariant.0 ∙ edge_more c.args.top c.args.heights.now place c.loop-height-test.true in (
      edge,
      subst (IsListOf (place + 1 + 1) (edge_at c.args.top c.args.heights.now)) (sym c.in_ok-push-2.ensures.items)
          (listed_more (place + 1) (edge_at c.args.top c.args.heights.now) c.loop-height.edges.items _ c.loop-height.invariant.1 edge),
    )
