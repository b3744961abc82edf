use Rattle.xt_protocol.proofs.Folds.{fold_widened, logged_widened}
use Rattle.replica_records.proofs.OldLaws.{widened_fits}
use Rattle.replica_records.proofs.spelling.old_kinds_say_the_same.Goals as goal

pub returns : goal.returns
returns c = record { fold = fold_widened; logged = logged_widened; limits = widened_fits }
