-- where the record stands that put a body last
pub use Rattle.replica_records.specs.Bare.{body_in}
use Rattle.std.specs.Prelude.{ℕ, ◌≡◌, ◌≢◌, ◌<◌, ◌==◌, if◌then◌else◌, Option, Some, None, List, [], length, slice_get, unwrap_or}
use Rattle.std.specs.Option.{option_map}
use Rattle.std.specs.Ordering.{ordering_then, nat_cmp}
use Rattle.std.specs.declared.cmp.Ordering.{Ordering}
use Rattle.std.specs.BTreeMap.{get}
use Rattle.std.proofs.Props.{props}
use Rattle.xt_base.specs.declared.ids.FileId.{FileId}
use Rattle.xt_messages.specs.declared.file.Update.{Update}
use Rattle.xt_messages.specs.declared.record.Record.{Record}
use Rattle.xt_messages.specs.declared.record.Record.TheVariants as kept
use Rattle.xt_base.specs.declared.TheConstants.{NO_OBJECT}
use Rattle.xt_protocol.specs.FileIds.{file_cmp}
use Rattle.xt_protocol.specs.VersionOrder.{stamp_cmp}
use Rattle.xt_protocol.specs.Folds.{body_kept}
use Rattle.replica_records.specs.declared.places.BodyKey.{BodyKey}
use Rattle.replica_records.specs.declared.places.Places.{Places}

-- by the places as they stand
abbrev pub body_cmp : BodyKey → BodyKey → Ordering
body_cmp a b = ordering_then (file_cmp a.file b.file) (ordering_then (nat_cmp a.object b.object) (stamp_cmp a.version b.version))

-- which body an update makes, if it makes one
abbrev pub key_made : FileId → Update → Option BodyKey
key_made file update =
    if update.object == NO_OBJECT then None else Some (record { file = file; object = update.object; version = update.stamp })

-- which body a record puts, if it puts one
abbrev pub key_put : Record → Option BodyKey
key_put (kept.Update file update) = key_made file update
key_put (kept.Stage file object version bytes) = Some (record { file = file; object = object; version = version })
key_put (kept.OldUpdate file update) = key_made file update
key_put (kept.OldStage file object version bytes) = Some (record { file = file; object = object; version = version })
key_put _ = None

-- the body that the record at a place puts
abbrev pub body_at : List Record → ℕ → List ℕ
body_at records place = unwrap_or (option_map body_in (slice_get records place)) []

-- where the record stands that put the body last; none where there is room for a place alone, or not even that
abbrev pub place_in : Places → BodyKey → Option ℕ
place_in places key = unwrap_or (get body_cmp places.places key) None

-- The places are those of these records: the record at each puts the body that is kept.
pub record ArePlacesIn (places : Places) (records : List Record) : Type 0 where
  pub inside : (key : BodyKey) (place : ℕ) → place_in places key ≡ Some place → place < length records
  pub found : (key : BodyKey) → option_map (body_at records) (place_in places key) ≡ body_kept records key.file key.object key.version

-- there is room for the place of the body that the record puts
abbrev pub HasRoomFor : Places → Record → Type 0
HasRoomFor places rec = (key : BodyKey) → key_put rec ≡ Some key → get body_cmp places.places key ≢ None

pub are_places_prop : (places : Places) (records : List Record) → IsProp (ArePlacesIn places records)
are_places_prop places records = hlevel props
