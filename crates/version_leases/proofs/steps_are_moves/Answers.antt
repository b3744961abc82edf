use Rattle.version_leases.proofs.Events.{event_moves}
use Rattle.version_leases.proofs.steps_are_moves.Goals as goal

pub returns : goal.returns
returns c = event_moves
