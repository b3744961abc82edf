use Rattle.list_invariants.proofs.Gives.{follows_record, wake_follows_record}
use Rattle.list_invariants.proofs.files_follow_records.Goals as goal

pub returns : goal.returns
returns c = record { message = follows_record; wake = wake_follows_record }
