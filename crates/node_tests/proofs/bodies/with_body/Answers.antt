use Rattle.xt_protocol.specs.Folds.{fold_of}
use Rattle.object_store.specs.Access.{records_of}
use Rattle.node_tests.proofs.bodies.with_body.Goals as goal

pub put-requires-clause-placed : goal.put-requires-clause-placed
put-requires-clause-placed g c = c.in-Ok.ensures.placed (fold_of (records_of {g = g.D.Disk} c.args.store))
