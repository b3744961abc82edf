use Rattle.lease_safety.proofs.Histories
use Rattle.lease_safety.proofs.a_ballot_names_a_round.Goals as goal

pub returns : goal.returns
returns c = Histories.one_round
