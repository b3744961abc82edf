use Rattle.own_messages_end.proofs.Measure
use Rattle.own_messages_end.proofs.own_messages_fall.Goals as goal

pub returns : goal.returns
returns c = Measure.both
