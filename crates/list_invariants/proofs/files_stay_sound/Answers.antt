use Rattle.list_invariants.proofs.Gives.{stays_sound, wake_stays_sound}
use Rattle.list_invariants.proofs.files_stay_sound.Goals as goal

pub returns : goal.returns
returns c = record { message = stays_sound; wake = wake_stays_sound }
