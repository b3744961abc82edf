use Rattle.client_jobs.proofs.Working.{runs_are_planned}
use Rattle.client_jobs.proofs.running.commands_keep_their_plans.Goals as goal

pub returns : goal.returns
returns c command bytes from now start s count taken text runs = runs_are_planned command bytes from start now s count taken text runs
