-- What contracts know of records that are on a disk, and what somebody sees who reads their bodies from there.
use Rattle.std.specs.Prelude.{◌≡◌, Bool, true, false, List, length, map, replicate}
use Rattle.std.specs.List.{All}
use Rattle.xt_messages.specs.Limits.{FitsRecord}
use Rattle.xt_messages.specs.declared.record.Record.{Record}
use Rattle.replica_records.specs.Bare.{body_in, with_body}

-- a record whose body's bytes aren't known, only their number: they are written as zeros
abbrev pub without_body : Record → Record
without_body rec = with_body (replicate (length (body_in rec)) 0) rec

-- A record as contracts know it once it is on a disk: all of it, where the disk's contents are known; elsewhere all but its body's bytes.
abbrev pub as_known : Bool → Record → Record
as_known true rec = rec
as_known false rec = without_body rec

abbrev pub known_of : Bool → List Record → List Record
known_of told records = map (as_known told) records

-- What somebody sees of these records who reads bodies from the disk: records of which this much is known, each within its limits. Where the
-- disk's contents are known, that is these very records.
pub record Sees (told : Bool) (known seen : List Record) : Type 0 where
  pub same : known_of told seen ≡ known
  pub fit : All FitsRecord seen
