use Rattle.node_runs.proofs.Returning.{none_comes_back}
use Rattle.node_loop.proofs.laws.no_older_records_come_back.Goals as goal

pub returns : goal.returns
returns g c = none_comes_back g.D.Disk.moment g.D.Disk.left_since
