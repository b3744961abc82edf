use Rattle.client_steps.specs.Tests.{Passes}
use Rattle.client_steps.proofs.Held
use Rattle.client_steps.proofs.what_is_held_was_granted.Goals as goal

pub returns : goal.returns
returns c = λ test. Held.held_after (Passes test)
