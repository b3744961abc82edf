use Rattle.std.proofs.Common.{arith}
use Rattle.object_store.proofs.Filled.{one_moved}
use Rattle.object_store.proofs.place.move_on.Goals as goal

pub loop-place-preserved : goal.loop-place-preserved
loop-place-preserved c =
    one_moved c.args.by c.args.places.now c.loop-place.places c.loop-place.place-index (record { at = 0; len = 0 }) c.saturating_add-place.result
    (omega arith) c.loop-place.invariant (omega (arith, c.saturating_add-place.ensures))
