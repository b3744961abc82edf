use Rattle.world_safety.proofs.Events.{messages_show, others_show, silent_rest}
use Rattle.world_safety.proofs.files.messages_are_steps_of_a_file.Goals as goal

pub returns : goal.returns
returns c = record { its = messages_show; others = others_show; silent = silent_rest }
