use Rattle.std.proofs.Common.{arith}
use Rattle.xt_protocol.specs.Register as protocol
use Rattle.flease.proofs.Filled.{map-step-at}
use Rattle.flease.proofs.seats.count_promise.Goals as goal

pub loop-seat-preserved : goal.loop-seat-preserved
loop-seat-preserved c =
    map-step-at (protocol.with_promise c.args.from c.args.boot) c.args.seats.now c.loop-seat.seats c.loop-seat.seat-index c.seat-item.result c.with_promise.result (omega arith) c.loop-seat.invariant c.seat-item.is c.with_promise.ensures
