-- Trace and entries are walked together.
use Rattle.file_runs.proofs.Order.{hold}
use Rattle.file_runs.proofs.traces_are_on_one_order.Goals as goal

pub returns : goal.returns
returns c = hold
