-- what a swap makes in memory before it begins
use Rattle.std.specs.Prelude.{ℕ, ◌≡◌, ◌+◌, List, [], ◌∷◌, length, map}
use Rattle.xt_base.specs.Faults.{counted}
use Rattle.xt_messages.specs.declared.record.Record.{Record}
use Rattle.journal_moves.specs.declared.gathered.Gathered.{Gathered}
use Rattle.replica_records.specs.Fronts.{FitsWith, front_text}
use Rattle.object_store.specs.declared.copied.Copied.{Copied}
use Rattle.object_store.specs.declared.place.BodyPlace.{BodyPlace}
use Rattle.object_store.specs.declared.swapping.Made.{Made}
use Rattle.object_store.specs.Logs.{bare_in, places_in}
use Rattle.object_store.specs.Places.{IsPair}

-- It is without its body, and within its limits with some body of as many bytes.
pub record FitsCopied (copied : Copied) : Type 0 where
  pub pair : IsPair copied.bare copied.body
  pub fits : FitsWith copied.body.len copied.bare

-- what comes before its body, and the body where it is
abbrev pub payload_of : Copied → Gathered
payload_of copied = record { front = front_text copied.body.len copied.bare; rest = record { at = copied.body.at; len = copied.body.len } }

abbrev pub bare_one : Copied → Record
bare_one copied = copied.bare

-- how many bytes come before its body in an area: the gate, the payload's length, and what the payload has before it
abbrev pub before_body : Copied → ℕ
before_body copied = 5 + length (front_text copied.body.len copied.bare)

-- the places of their bodies from this gate on
abbrev pub places_from : ℕ → List Copied → List BodyPlace
places_from gate [] = []
places_from gate (copied ∷ records) =
    record { at = counted (gate + before_body copied); len = copied.body.len } ∷ places_from (counted (gate + (before_body copied + copied.body.len))) records

-- The payloads are those of these records, and the log has the records, with the places of their bodies in an area that begins with the
-- disk.
pub record IsMadeOf (records : List Copied) (made : Made) : Type 0 where
  pub payloads : made.payloads.items ≡ map payload_of records
  pub bare : bare_in made.log ≡ map bare_one records
  pub places : places_in made.log ≡ places_from 0 records
