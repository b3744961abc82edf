use Rattle.own_messages_end.proofs.Measure
use Rattle.own_messages_end.proofs.forgetting_adds_none.Goals as goal

pub returns : goal.returns
returns c = Measure.kept
