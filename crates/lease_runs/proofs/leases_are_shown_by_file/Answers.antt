use Rattle.lease_runs.proofs.OsdLeases
use Rattle.lease_runs.proofs.leases_are_shown_by_file.Goals as goal

pub returns : goal.returns
returns c = record { message = OsdLeases.message_shows; wake = OsdLeases.wake_shows; each = OsdLeases.each_wakes }
