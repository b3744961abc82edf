-- what a scrub needs of the records of a loaded store, and what it leaves of what they say
use Rattle.std.specs.Prelude.{ℕ, ◌≡◌, Option, List, ◌++◌, Contains}
use Rattle.std.specs.List.{All, AllByRecursion}
use Rattle.xt_base.specs.declared.ids.FileId.{FileId}
use Rattle.xt_base.specs.declared.ids.Stamp.{Stamp}
use Rattle.xt_messages.specs.declared.record.Record.{Record}
use Rattle.xt_messages.specs.declared.record.Record.TheVariants as kept
use Rattle.xt_protocol.specs.Folds.{nothing_kept, fold_of, logged_of, AreInPlace}
use Rattle.scrub.specs.declared.listing.Item.{Item}
use Rattle.scrub.specs.Items.{items_of}
use Rattle.scrub.specs.Reading.{HasBody}

-- Records that are each in their place have the body of each of their items.
abbrev pub BodiesAreThere : Type 0
BodiesAreThere = (records : List Record) → AreInPlace nothing_kept records → All (HasBody records) (items_of (fold_of records) records)

-- one of these items is this version of the object of the file
abbrev pub IsAmong : List Item → FileId → ℕ → Stamp → Type 0
IsAmong items file object version =
    (seal : Option (List ℕ)) × Contains items (record { file = file; object = object; version = version; seal = seal })

-- what a scrub keeps of these items: a digest of one, or bytes in its place
abbrev pub IsOfItems : List Item → Record → Type 0
IsOfItems items (kept.Seal file object version digest) = IsAmong items file object version
IsOfItems items (kept.Stage file object version bytes) = IsAmong items file object version
IsOfItems items _ = ⊥

-- Whatever a scrub of records keeps after them, it changes nothing of what they say, and no request. So it is at each moment of a scrub.
abbrev pub ScrubsSayNothing : Type 0
ScrubsSayNothing =
    (records more : List Record) → AreInPlace nothing_kept records → AllByRecursion (IsOfItems (items_of (fold_of records) records)) more
    → (fold_of (records ++ more) ≡ fold_of records) × (logged_of (records ++ more) ≡ logged_of records)
