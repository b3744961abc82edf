-- where the bodies of records are on a disk
use Rattle.std.specs.Prelude.{ℕ, ◌≡◌, ◌+◌, ◌-◌, ◌≤◌, Bool, true, false, List, [], ◌∷◌, length, take, drop, replicate}
use Rattle.std.proofs.Props.{props}
use Rattle.xt_base.specs.Faults.{counted}
use Rattle.xt_messages.specs.declared.record.Record.{Record}
use Rattle.xt_journal.specs.Placed.{Placed}
use Rattle.replica_records.specs.declared.places.Places.{Places}
use Rattle.replica_records.specs.Places.{body_in, ArePlacesIn, are_places_prop}
use Rattle.object_store.specs.declared.place.BodyPlace.{BodyPlace}
use Rattle.object_store.specs.Bare.{with_body}

-- The place of a record's body, which is the end of its payload: before it are the gate, the payload's length in four bytes, and the rest
-- of the payload.
abbrev pub place_of : Placed → Record → BodyPlace
place_of p rec = record { at = counted (p.gate + (5 + (length p.bytes - length (body_in rec)))); len = length (body_in rec) }

-- those of these records, whose payloads are placed so
abbrev pub places_of : List Placed → List Record → List BodyPlace
places_of [] records = []
places_of (p ∷ placed) [] = []
places_of (p ∷ placed) (rec ∷ records) = place_of p rec ∷ places_of placed records

-- so many bytes further on
abbrev pub later : ℕ → BodyPlace → BodyPlace
later by place = record place { at = counted (by + place.at) }

-- What a read gives there; as many zeros where contracts don't know what it gives.
abbrev pub bytes_at : Bool → List ℕ → BodyPlace → List ℕ
bytes_at true read place = take place.len (drop place.at read)
bytes_at false read place = replicate place.len 0

-- records with the bytes that are in their places
abbrev pub filled : (BodyPlace → List ℕ) → List Record → List BodyPlace → List Record
filled bytes [] places = []
filled bytes (rec ∷ records) [] = []
filled bytes (rec ∷ records) (place ∷ places) = with_body (bytes place) rec ∷ filled bytes records places

-- a record without its body, and that body's place, which is as long as a body that it puts; without any bytes where it puts none
pub record IsPair (rec : Record) (place : BodyPlace) : Type 0 where
  pub bare : body_in rec ≡ []
  pub takes : (body : List ℕ) → length body ≤ place.len → body_in (with_body body rec) ≡ body

abbrev pub ArePairs : List Record → List BodyPlace → Type 0
ArePairs [] [] = Unit {0}
ArePairs [] (place ∷ places) = ⊥
ArePairs (rec ∷ records) [] = ⊥
ArePairs (rec ∷ records) (place ∷ places) = IsPair rec place × ArePairs records places

is_pair_prop : (rec : Record) (place : BodyPlace) → IsProp (IsPair rec place)
is_pair_prop rec place = hlevel props

pub are_pairs_prop : (records : List Record) (places : List BodyPlace) → IsProp (ArePairs records places)
are_pairs_prop [] [] = hlevel props
are_pairs_prop [] (place ∷ places) = hlevel props
are_pairs_prop (rec ∷ records) [] = hlevel props
are_pairs_prop (rec ∷ records) (place ∷ places) = hlevel (props, is_pair_prop rec place, are_pairs_prop records places)

-- whatever bytes are in the places, each body is found
abbrev pub AreFound : Places → List Record → List BodyPlace → Type 0
AreFound last records places = (bytes : BodyPlace → List ℕ) → ArePlacesIn last (filled bytes records places)

pub are_found_prop : (last : Places) (records : List Record) (places : List BodyPlace) → IsProp (AreFound last records places)
are_found_prop last records places = hlevel (props, are_places_prop)
