use Rattle.xt_parts.proofs.Forgetting.{stays_few, stays_apart, forgets_given, forgets_dropped}
use Rattle.xt_parts.proofs.laws.forgets_messages.Goals as goal

pub returns : goal.returns
returns c = record { few = stays_few; apart = stays_apart; given = forgets_given; dropped = forgets_dropped }
