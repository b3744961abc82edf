use Rattle.scrub.proofs.There.{bodies_are_there}
use Rattle.scrub.proofs.laws.loaded_bodies_are_there.Goals as goal

pub returns : goal.returns
returns c = bodies_are_there
