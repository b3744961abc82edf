use Rattle.lease_safety.proofs.Histories
use Rattle.lease_safety.proofs.one_holder.Goals as goal

pub returns : goal.returns
returns c = Histories.one_holder
