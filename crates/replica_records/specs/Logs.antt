-- what a log of records shows
use Rattle.std.specs.Prelude.{◌<◌, List}
use Rattle.std.specs.Vec.{vec_capacity, vec_len}
use Rattle.xt_messages.specs.declared.record.Record.{Record}
use Rattle.replica_records.specs.declared.log.RecordLog.{RecordLog}
use Rattle.replica_records.specs.Places.{HasRoomFor}

-- the records, in order
abbrev pub records_in : RecordLog → List Record
records_in log = log.records.items

-- there is room for the record and for the place of its body
abbrev pub HasRoom : RecordLog → Record → Type 0
HasRoom log rec = (vec_len log.records < vec_capacity log.records) × HasRoomFor log.places rec
