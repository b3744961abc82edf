use Rattle.listed_leases.proofs.OsdLeases.{message_shows, wake_all_shows}
use Rattle.listed_leases.proofs.leases_are_shown_by_file.Goals as goal

pub returns : goal.returns
returns c = record { message = message_shows; wake = wake_all_shows }
