use Rattle.list_laws.proofs.Taken.{step_taken}
use Rattle.list_laws.proofs.a_step_takes_so.Goals as goal

pub returns : goal.returns
returns c = step_taken
