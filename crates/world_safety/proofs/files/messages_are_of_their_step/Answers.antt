use Rattle.world_safety.proofs.Senders.{message_from, wake_from}
use Rattle.world_safety.proofs.files.messages_are_of_their_step.Goals as goal

pub returns : goal.returns
returns c = record { message = message_from; wake = wake_from }
