use Rattle.server_says.proofs.Says.{step_says}
use Rattle.server_says.proofs.servers_say.Goals as goal

pub returns : goal.returns
returns c = step_says
