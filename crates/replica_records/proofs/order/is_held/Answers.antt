use Rattle.replica_records.proofs.Held.{is_among}
use Rattle.replica_records.proofs.order.is_held.Goals as goal

pub returns : goal.returns
returns c = is_among c.args.held.now c.args.version c.holds.result c.holds.ensures
