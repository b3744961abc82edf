use Rattle.world_safety.proofs.Steps.{messages_run, outside_runs}
use Rattle.world_safety.proofs.files.messages_are_runs_of_a_file.Goals as goal

pub returns : goal.returns
returns c = record { inside = messages_run; outside = outside_runs }
