use Rattle.std.proofs.Common.{refl}
use Rattle.list_rows.specs.ListSteps.{step_with_lists}
use Rattle.list_rows.proofs.silence_is_kept.Goals as goal

pub returns : goal.returns
unfolding step_with_lists
returns c = λ outside osd reading happens silent. rw silent refl
