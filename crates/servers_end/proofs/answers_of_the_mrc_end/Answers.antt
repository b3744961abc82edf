use Rattle.servers_end.proofs.Servers
use Rattle.servers_end.proofs.answers_of_the_mrc_end.Goals as goal

pub returns : goal.returns
returns c = Servers.mrc_ends
