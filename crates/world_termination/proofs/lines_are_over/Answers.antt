-- every line ends
use Rattle.world_termination.proofs.Ends.{all_over}
use Rattle.world_termination.proofs.lines_are_over.Goals as goal

pub returns : goal.returns
returns c = record { over = all_over }
