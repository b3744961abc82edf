use Rattle.listed_leases.proofs.Versions.{message_at, start_at, wake_at}
use Rattle.listed_leases.proofs.versions_are_shown.Goals as goal

pub returns : goal.returns
returns c = record { start = start_at; message = message_at; wake = wake_at }
