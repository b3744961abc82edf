use Rattle.client_limits.proofs.Limits
use Rattle.client_limits.proofs.new_clients_fit.Goals as goal

pub returns : goal.returns
returns c = Limits.new_fits
