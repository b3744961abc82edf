use Rattle.world_safety.proofs.Asks.{messages_come, outside_is_idle, operations_are}
use Rattle.world_safety.proofs.files.messages_may_come.Goals as goal

pub returns : goal.returns
returns c = record { come = messages_come; outside = outside_is_idle; operations = operations_are }
