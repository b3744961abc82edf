use Rattle.std.proofs.Common.{refl}
use Rattle.spec_examples.specs.Sealing.{tags}
use Rattle.spec_examples.proofs.sealing.a_stop_has_the_tag_of_its_word.Goals as goal

pub returns : goal.returns
unfolding tags
returns c = refl
