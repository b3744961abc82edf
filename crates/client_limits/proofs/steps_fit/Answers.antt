use Rattle.client_limits.proofs.Limits
use Rattle.client_limits.proofs.steps_fit.Goals as goal

pub returns : goal.returns
returns c = Limits.stepped_fits
