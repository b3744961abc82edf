use Rattle.client_limits.proofs.Limits
use Rattle.client_limits.proofs.calls_fit.Goals as goal

pub returns : goal.returns
returns c = Limits.called_fits
