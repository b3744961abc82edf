use Rattle.list_coordinator.proofs.OneFile.{same_step}
use Rattle.list_coordinator.proofs.one_file_at_a_time.Goals as goal

pub returns : goal.returns
returns c = same_step
