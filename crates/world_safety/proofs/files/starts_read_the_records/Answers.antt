use Rattle.world_safety.proofs.Events.{starts_show, servers_rest}
use Rattle.world_safety.proofs.files.starts_read_the_records.Goals as goal

pub returns : goal.returns
returns c = record { osds = starts_show; others = servers_rest }
