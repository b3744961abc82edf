-- records without their bodies
pub use Rattle.replica_records.specs.Bare.{with_body}
use Rattle.std.specs.Prelude.{List, [], map}
use Rattle.xt_messages.specs.declared.record.Record.{Record}

-- A record with an empty body, where it puts one: all that a store has of it in memory.
abbrev pub bare : Record → Record
bare rec = with_body [] rec

abbrev pub bare_of : List Record → List Record
bare_of records = map bare records
