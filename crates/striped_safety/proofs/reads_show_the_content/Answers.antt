use Rattle.striped_safety.proofs.Moves.{reads_right}
use Rattle.striped_safety.proofs.reads_show_the_content.Goals as goal

pub returns : goal.returns
returns c s moves r is may has = reads_right s is moves may r has
