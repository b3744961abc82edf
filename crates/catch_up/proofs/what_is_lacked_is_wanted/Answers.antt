use Rattle.std.proofs.Common.{refl}
use Rattle.xt_protocol.specs.Choice.{difference}
use Rattle.catch_up.proofs.what_is_lacked_is_wanted.Goals as goal

pub returns : goal.returns
unfolding difference
returns c = refl
