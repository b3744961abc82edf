use Rattle.std.proofs.Common.{sym, arith}
use Rattle.xt_base.specs.declared.TheConstants.{OBJECTS}
use Rattle.osd_decisions.proofs.Near.{fresh_near}
use Rattle.replica_primary.proofs.serving.write_stands.Goals as goal

-- src/serving.rt:282:13
pub fresh_write-requires-clause-near : goal.fresh_write-requires-clause-near
fresh_write-requires-clause-near g c =
    fresh_near OBJECTS c.args.place.now.stripe c.args.head.now c.args.id c.args.epoch c.args.op.now (omega arith) (sym c.in-Fresh.ensures)
