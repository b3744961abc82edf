use Rattle.server_limits.proofs.Keeping.{mrc_starts, mrc_boots, mrc_steps}
use Rattle.server_limits.proofs.metadata_servers_run_on_their_records.Goals as goal

pub returns-clause-starts : goal.returns-clause-starts
returns-clause-starts c = mrc_starts

pub returns-clause-boots : goal.returns-clause-boots
returns-clause-boots c = mrc_boots

pub returns-clause-steps : goal.returns-clause-steps
returns-clause-steps c = mrc_steps
