use Rattle.server_limits.proofs.Keeping.{dir_starts, dir_boots, dir_steps}
use Rattle.server_limits.proofs.directories_run_on_their_records.Goals as goal

pub returns-clause-starts : goal.returns-clause-starts
returns-clause-starts c = dir_starts

pub returns-clause-boots : goal.returns-clause-boots
returns-clause-boots c = dir_boots

pub returns-clause-steps : goal.returns-clause-steps
returns-clause-steps c = dir_steps
