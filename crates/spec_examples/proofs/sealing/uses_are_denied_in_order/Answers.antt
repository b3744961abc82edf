use Rattle.std.proofs.Common.{refl}
use Rattle.spec_examples.specs.Sealing.{tags}
use Rattle.spec_examples.proofs.sealing.uses_are_denied_in_order.Goals as goal

pub returns : goal.returns
unfolding tags
returns c = refl
