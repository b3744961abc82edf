use Rattle.store_compact.proofs.Limits.{stay_kept}
use Rattle.store_compact.proofs.laws.rewritten_records_may_be_kept.Goals as goal

pub returns : goal.returns
returns c = stay_kept
