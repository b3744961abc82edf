use Rattle.osd_invariants.proofs.SoundSteps
use Rattle.osd_invariants.proofs.files_stay_sound.Goals as goal

pub returns : goal.returns
returns c = record { start = SoundSteps.start_so; expiry = SoundSteps.expired_so; message = SoundSteps.step_so; wake = SoundSteps.wake_so }
