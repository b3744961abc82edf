-- Row by row, in proofs/AskSteps.antt.
use Rattle.replica_runs.proofs.AskSteps.{none_fit, expired_fit, step_fit, wake_fit}
use Rattle.replica_runs.proofs.asks_stay_within_limits.Goals as goal

pub returns : goal.returns
returns c stripe ops members = record {
  start = λ awake row. none_fit stripe ops;
  expiry = λ site s fit. expired_fit stripe ops site s fit;
  message = λ site s from content fit known. step_fit stripe ops site members s from content fit known;
  wake = λ site s fit. wake_fit stripe ops site s fit;
}
