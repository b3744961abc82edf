-- records that go to a new area, with bodies that are copied from their places
use Rattle.std.specs.Prelude.{ℕ, ◌≡◌, ◌⊎◌, Bool, List, Contains, map}
use Rattle.xt_messages.specs.declared.record.Record.{Record}
use Rattle.object_store.specs.declared.place.BodyPlace.{BodyPlace}
use Rattle.object_store.specs.declared.copied.Copied.{Copied}
use Rattle.object_store.specs.Bare.{with_body}
use Rattle.object_store.specs.Places.{IsPair, bytes_at}

-- the record with its body, on a disk of which a read gives these bytes; with zeros for it where contracts don't know that
abbrev pub copied_in : Bool → List ℕ → Copied → Record
copied_in told read made = with_body (bytes_at told read made.body) made.bare

abbrev pub copied : Bool → List ℕ → List Copied → List Record
copied told read made = map (copied_in told read) made

-- It is without its body, which is empty or in one of these places.
pub record IsCopiedFrom (places : List BodyPlace) (made : Copied) : Type 0 where
  pub pair : IsPair made.bare made.body
  pub place : (made.body.len ≡ 0) ⊎ Contains places made.body
