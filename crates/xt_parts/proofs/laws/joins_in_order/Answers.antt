use Rattle.xt_parts.proofs.Ordered.{steps_in_order, whole_in_order, early_in_order}
use Rattle.xt_parts.proofs.laws.joins_in_order.Goals as goal

pub returns : goal.returns
returns c = record { steps = steps_in_order; whole = whole_in_order; early = early_in_order }
