use Rattle.listed_leases.proofs.LeaseOuts.{message_sends, wake_sends}
use Rattle.listed_leases.proofs.leases_are_sent_by_file.Goals as goal

pub returns : goal.returns
returns c = record { message = message_sends; wake = wake_sends }
