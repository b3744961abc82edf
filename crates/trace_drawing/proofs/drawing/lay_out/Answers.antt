use Rattle.std.proofs.Common.{arith}
use Rattle.trace_drawing.specs.declared.rows.TheConstants.{TICK_ROW}
use Rattle.trace_drawing.proofs.Heights.{sum-le}
use Rattle.trace_drawing.proofs.drawing.lay_out.Goals as goal

pub edges_of-requires : goal.edges_of-requires
edges_of-requires c =
    let rows = c.in_ok-heights.ensures in
    let few = sum-le c.in_ok-heights.heights.items TICK_ROW rows.low in
    rw c.as_slice-6.ensures.value (omega (arith, few, rows.each))
