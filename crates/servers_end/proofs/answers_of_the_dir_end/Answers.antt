use Rattle.servers_end.proofs.Servers
use Rattle.servers_end.proofs.answers_of_the_dir_end.Goals as goal

pub returns : goal.returns
returns c = Servers.dir_ends
