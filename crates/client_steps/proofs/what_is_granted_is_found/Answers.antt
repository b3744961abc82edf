use Rattle.client_steps.proofs.Held
use Rattle.client_steps.proofs.what_is_granted_is_found.Goals as goal

pub returns-clause-found : goal.returns-clause-found
returns-clause-found c = Held.ready_holds

pub returns-clause-others : goal.returns-clause-others
returns-clause-others c = Held.ready_others
