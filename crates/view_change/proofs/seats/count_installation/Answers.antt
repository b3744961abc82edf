use Rattle.std.proofs.Common.{arith}
use Rattle.change_rows.specs.Changes as rows
use Rattle.view_change.proofs.Filled.{map-step-at}
use Rattle.view_change.proofs.seats.count_installation.Goals as goal

pub loop-seat-preserved : goal.loop-seat-preserved
loop-seat-preserved c =
    map-step-at (rows.with_installation c.args.from) c.args.seats.now c.loop-seat.seats c.loop-seat.seat-index c.seat-item.result c.with_installation.result (omega arith) c.loop-seat.invariant c.seat-item.is c.with_installation.ensures
