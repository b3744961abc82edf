use Rattle.client_limits.proofs.Limits
use Rattle.client_limits.proofs.repeated_calls_fit.Goals as goal

pub returns : goal.returns
returns c = Limits.again_fits
