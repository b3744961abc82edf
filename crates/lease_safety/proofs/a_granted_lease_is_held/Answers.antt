use Rattle.lease_safety.proofs.Histories
use Rattle.lease_safety.proofs.a_granted_lease_is_held.Goals as goal

pub returns : goal.returns
returns c = Histories.granted_holds
