use Rattle.replica_records.proofs.Placing.{places_of_none}
use Rattle.replica_records.proofs.places.Places.new.Goals as goal

pub returns : goal.returns
returns c = places_of_none _ c.new.ensures.empty
