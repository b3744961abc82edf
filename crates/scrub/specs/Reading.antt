-- items with their bodies, and how reading them ends
use Rattle.std.specs.Prelude.{ℕ, ◌≡◌, ◌+◌, Option, Some, None, Result, Ok, Err, List, ◌∷◌, ◌++◌, length}
use Rattle.std.specs.List.{All, AllZip}
use Rattle.xt_base.specs.Faults.{Rose}
use Rattle.xt_messages.specs.declared.record.Record.{Record}
use Rattle.xt_protocol.specs.Folds.{body_kept}
use Rattle.scrub.specs.declared.found.Found.{Found}
use Rattle.scrub.specs.declared.listing.Item.{Item}
use Rattle.scrub.specs.declared.reading.ReadItem.{ReadItem}
use Rattle.scrub.specs.declared.reading.ScrubErr.{ScrubErr}
use Rattle.scrub.specs.declared.reading.ScrubErr.TheVariants as error
use Rattle.scrub.specs.Report.{found_of}

-- the body of an item, if these records keep one
abbrev pub kept_for : List Record → Item → Option (List ℕ)
kept_for records item = body_kept records item.file item.object item.version

-- these records keep the body of the item
pub record HasBody (records : List Record) (item : Item) : Type 0 where
  pub body : List ℕ
  pub kept : kept_for records item ≡ Some body

-- The item at this index is the first one whose body no record keeps. The first of all has this other index.
pub record IsFirstLost (records : List Record) (items : List Item) (first index : ℕ) : Type 0 where
  pub before : List Item
  pub item : Item
  pub rest : List Item
  pub split : items ≡ before ++ item ∷ rest
  pub place : index ≡ first + length before
  pub there : All (HasBody records) before
  pub lost : kept_for records item ≡ None

-- the item was read, with the body that these records keep
pub record IsRead (records : List Record) (item : Item) (read : ReadItem) : Type 0 where
  pub same : read.item ≡ item
  pub kept : kept_for records item ≡ Some read.bytes

abbrev pub AreRead : List Record → List Item → List ReadItem → Type 0
AreRead records items read = AllZip (IsRead records) items read

-- what is found of an item that was read
abbrev pub found_in : ReadItem → Found
found_in read = found_of read.item read.bytes

-- ---- how reading ends, for all records that agree with what was read

-- The items were read, and no read failed.
pub record HaveBeenRead (agrees : List Record → Type 0) (before after : ℕ) (items : List Item) (read : List ReadItem) : Type 0 where
  pub sound : after ≡ before
  pub are : (records : List Record) → agrees records → AreRead records items read

-- Why these items aren't read, of which the first has this index: no record has the body of the item at an index, and those of the items before
-- it are in some; or a read failed, and `count` have failed in all; or memory ran out. The count of faults rose in the second case alone, where it isn't memory.
abbrev pub CannotRead : (List Record → Type 0) → ℕ → ℕ → List Item → ℕ → ScrubErr → Type 0
CannotRead agrees before after items first (error.NoBody index) =
    (after ≡ before) × ((records : List Record) → agrees records → IsFirstLost records items first index)
CannotRead agrees before after items first (error.BodyFault count) = (count ≡ after) × Rose before after
CannotRead agrees before after items first error.OutOfMemory = Unit {0}

-- how reading one item ends, which has this index
abbrev pub ReadsOne : (List Record → Type 0) → ℕ → ℕ → Item → ℕ → Result ReadItem ScrubErr → Type 0
ReadsOne agrees before after item index (Ok read) = (after ≡ before) × ((records : List Record) → agrees records → IsRead records item read)
ReadsOne agrees before after item index (Err (error.NoBody place)) =
    (after ≡ before) × (place ≡ index) × ((records : List Record) → agrees records → kept_for records item ≡ None)
ReadsOne agrees before after item index (Err (error.BodyFault count)) = (count ≡ after) × Rose before after
ReadsOne agrees before after item index (Err error.OutOfMemory) = Unit {0}
