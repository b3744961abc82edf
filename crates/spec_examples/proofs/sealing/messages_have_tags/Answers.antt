use Rattle.std.proofs.Common.{refl}
use Rattle.spec_examples.specs.Sealing.{tags}
use Rattle.spec_examples.proofs.sealing.messages_have_tags.Goals as goal

pub returns : goal.returns
unfolding tags
returns c = refl
