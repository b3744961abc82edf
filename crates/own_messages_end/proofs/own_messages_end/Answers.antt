use Rattle.own_messages_end.proofs.Working
use Rattle.own_messages_end.proofs.own_messages_end.Goals as goal

pub returns : goal.returns
returns c = Working.all_end
