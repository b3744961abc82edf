use Rattle.lease_runs.proofs.LeaseOuts
use Rattle.lease_runs.proofs.leases_are_sent_by_file.Goals as goal

pub returns : goal.returns
returns c = record { message = LeaseOuts.message_sends; wake = LeaseOuts.wake_sends }
