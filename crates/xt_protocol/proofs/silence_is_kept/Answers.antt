use Rattle.std.proofs.Common.{refl}
use Rattle.xt_protocol.specs.OsdSteps.{step_of_osd}
use Rattle.xt_protocol.proofs.silence_is_kept.Goals as goal

pub returns : goal.returns
unfolding step_of_osd
returns c = λ outside osd reading happens silent. rw silent refl
