use Rattle.listed_leases.proofs.Follows.{step_shows, wake_kept, wake_shows}
use Rattle.listed_leases.proofs.leases_are_shown.Goals as goal

pub returns : goal.returns
returns c = record { message = step_shows; wake = wake_shows; wake_keeps = wake_kept }
