-- what the log of a store shows
use Rattle.std.specs.Prelude.{ℕ, ◌<◌, Bool, List}
use Rattle.std.specs.Vec.{vec_capacity, vec_len}
use Rattle.xt_messages.specs.declared.record.Record.{Record}
use Rattle.replica_records.specs.Places.{HasRoomFor}
use Rattle.object_store.specs.declared.place.BodyPlace.{BodyPlace}
use Rattle.object_store.specs.declared.log.StoreLog.{StoreLog}
use Rattle.object_store.specs.Places.{bytes_at, filled}

-- the records without their bodies, in order
abbrev pub bare_in : StoreLog → List Record
bare_in log = log.records.items

-- the places of their bodies
abbrev pub places_in : StoreLog → List BodyPlace
places_in log = log.bodies.items

-- The records with their bodies, on a disk of which a read gives these bytes; with zeros for them where contracts don't know that.
abbrev pub records_in : Bool → List ℕ → StoreLog → List Record
records_in told read log = filled (bytes_at told read) log.records.items log.bodies.items

-- there is room for the record and for the place of its body
abbrev pub HasRoom : StoreLog → Record → Type 0
HasRoom log rec = (vec_len log.records < vec_capacity log.records) × (vec_len log.bodies < vec_capacity log.bodies) × HasRoomFor log.last rec
