use Rattle.osd_invariants.proofs.Kept
use Rattle.osd_invariants.proofs.files_follow_records.Goals as goal

pub returns : goal.returns
returns c = record { expiry = Kept.expired_follows; message = Kept.step_follows; wake = Kept.wake_follows }
