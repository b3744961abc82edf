use Rattle.list_laws.proofs.Open
use Rattle.list_laws.proofs.an_open_list_is_taken.Goals as goal

pub returns-clause-messages : goal.returns-clause-messages
returns-clause-messages c = Open.open_taken

pub returns-clause-asks : goal.returns-clause-asks
returns-clause-asks c = Open.open_ask
