use Rattle.xt_parts.proofs.Ordered.{whole_in_any_order, early_in_any_order}
use Rattle.xt_parts.proofs.laws.joins_in_any_order.Goals as goal

pub returns : goal.returns
returns c = record { whole = whole_in_any_order; early = early_in_any_order }
