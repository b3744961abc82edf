use Rattle.world_safety.proofs.Tellings.{telling, telling_is_safe}
use Rattle.world_safety.proofs.files.traces_tell_the_tales.Goals as goal

pub returns : goal.returns
returns c = record { telling = telling; safe = telling_is_safe }
