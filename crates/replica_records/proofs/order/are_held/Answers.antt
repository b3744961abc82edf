use Rattle.replica_records.proofs.Held.{held_more}
use Rattle.replica_records.proofs.order.are_held.Goals as goal

pub loop-version-preserved : goal.loop-version-preserved
loop-version-preserved c =
    held_more c.args.held.now c.args.versions.now c.loop-version.version-index _ c.loop-version.invariant c.loop-version-test.true
    (c.is_held.ensures.0 c.if-not-is_held.false)
