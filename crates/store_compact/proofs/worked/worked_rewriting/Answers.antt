use Rattle.std.proofs.Common.{refl}
use Rattle.xt_protocol.specs.Folds.{row_in, with_row, without_row, fold_of, logged_of, body_kept, digests_kept}
use Rattle.xt_protocol.specs.Forgetting.{rewritten}
use Rattle.xt_protocol.specs.Stamps.{with_held}
use Rattle.store_compact.specs.Worked.{IsRewritten}
use Rattle.store_compact.proofs.worked.worked_rewriting.Goals as goal

is_rewritten : IsRewritten
unfolding row_in with_row without_row fold_of logged_of body_kept digests_kept rewritten with_held
is_rewritten = refl

pub returns : goal.returns
returns c = is_rewritten
