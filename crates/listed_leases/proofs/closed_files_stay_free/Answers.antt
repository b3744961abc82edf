use Rattle.listed_leases.proofs.Closed.{expired_free, step_free, wake_free}
use Rattle.listed_leases.proofs.closed_files_stay_free.Goals as goal

pub returns : goal.returns
returns c = record { start = λ awake row closed. tt; expiry = expired_free; message = step_free; wake = wake_free }
