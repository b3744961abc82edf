-- What a replica keeps: the records of its pin, and the objects that were fetched, each as a body under the pin's version.
use Rattle.std.specs.Prelude.{ℕ, ◌≡◌, ◌≢◌, ◌+◌, ◌-◌, ◌/◌, ◌==◌, nat_lt, min, if◌then◌else◌, Option, Some, None, List, [], ◌∷◌, length, drop, map}
use Rattle.std.specs.List.{All, concat, filter_map, range_with_len}
use Rattle.std.proofs.Props.{props}
use Rattle.xt_base.specs.Overlay.{cut_or_filled}
use Rattle.xt_base.specs.FieldLimits.{IsCount}
use Rattle.xt_base.specs.declared.ids.FileId.{FileId}
use Rattle.xt_base.specs.declared.ids.Stamp.{Stamp}
use Rattle.xt_messages.specs.declared.file.FileHead.{FileHead}
use Rattle.xt_messages.specs.declared.file.Location.{Location}
use Rattle.xt_messages.specs.declared.record.Record.{Record}
use Rattle.xt_messages.specs.declared.record.Record.TheVariants as kept
use Rattle.xt_messages.specs.declared.record.FileRow.{FileRow}
use Rattle.xt_messages.specs.Limits.{FitsFile, FitsLocation, FitsMark, FitsStripe}
use Rattle.xt_protocol.specs.Folds.{body_kept, file_of}
use Rattle.xt_protocol.specs.Heads.{first_epoch, plain_stamp}
use Rattle.striping.specs.declared.Piece.{Piece}
use Rattle.striping.specs.Cover.{object_of}
use Rattle.ronly_replica.specs.declared.pin.Pin.{Pin}

-- the version under which objects of a pin are staged: no primary gives it, since it is of the epoch before any primary
abbrev pub pinned_version : ℕ → Stamp
pinned_version count = plain_stamp count

-- a pin's numbers are within their limits
pub record FitsPin (pin : Pin) : Type 0 where
  pub subject : FitsFile pin.file
  pub place : FitsLocation pin.location
  pub writes : IsCount pin.count
  pub size : FitsMark pin.mark

-- what is kept of that with a replica
pub record IsPinned (pin : Pin) : Type 0 where
  pub subject : FitsFile pin.file
  pub size : FitsStripe pin.location.stripe
  pub writes : IsCount pin.count

pub pinned_prop : (pin : Pin) → IsProp (IsPinned pin)
pinned_prop pin = hlevel props

-- ---- its records

abbrev pub view_of : Pin → Record
view_of pin = kept.View pin.file pin.location

-- a head without versions: what was written last isn't known
abbrev pub pinned_head : Pin → FileHead
pinned_head pin =
    record {
      promised = first_epoch;
      stamp = pinned_version pin.count;
      last = record { client = record { 0 = 0 }; number = 0 };
      mark = pin.mark;
      versions = [];
      sessions = [];
    }

abbrev pub head_of : Pin → Record
head_of pin = kept.Head pin.file (pinned_head pin)

abbrev pub stage_of : Pin → ℕ → List ℕ → Record
stage_of pin object bytes = kept.Stage pin.file object (pinned_version pin.count) bytes

-- ---- what records say

abbrev pub pin_at : FileRow → Option Location → Option Pin
pin_at row None = None
pin_at row (Some location) = Some (record { file = row.file; location = location; count = row.head.stamp.count; mark = row.head.mark })

-- what a file is pinned to, if it has a place
abbrev pub pin_of : FileRow → Option Pin
pin_of row = pin_at row row.location

-- those of the files with a place, rising by file
abbrev pub pins_of : List FileRow → List Pin
pins_of rows = filter_map pin_of rows

abbrev pub last_from : Option Pin → List Pin → Option Pin
last_from before [] = before
last_from before (pin ∷ pins) = last_from (Some pin) pins

abbrev pub last_of : List Pin → Option Pin
last_of pins = last_from None pins

-- ---- objects

-- how many objects have bytes of the first so many
abbrev pub objects_below : ℕ → ℕ → ℕ
objects_below stripe end = if end == 0 then 0 else (end - 1) / stripe + 1

-- where a range ends that is shown: no later than the file
abbrev pub end_of : Pin → ℕ → ℕ → ℕ
end_of pin at len = min (at + len) pin.mark.size

-- the objects that have bytes of a range below the pinned size, in order
abbrev pub objects_of : Pin → ℕ → ℕ → List ℕ
objects_of pin at len =
    if nat_lt at (end_of pin at len)
    then range_with_len (at / pin.location.stripe) (objects_below pin.location.stripe (end_of pin at len) - at / pin.location.stripe)
    else []

-- ---- held objects

-- no record says anything of the file
abbrev pub Lacks : FileId → List Record → Type 0
Lacks file records = All (λ rec. file_of rec ≢ Some file) records

-- the body that is held of an object
abbrev pub held_in : Pin → List Record → ℕ → Option (List ℕ)
held_in pin records object = body_kept records pin.file object (pinned_version pin.count)

abbrev pub or_empty : Option (List ℕ) → List ℕ
or_empty None = []
or_empty (Some bytes) = bytes

-- the bytes of a piece: those of the body from the piece's place on, with zeros where it has none
abbrev pub shown_in : Pin → List Record → Piece → List ℕ
shown_in pin records piece = cut_or_filled (drop piece.at (or_empty (held_in pin records piece.object))) piece.len

abbrev pub all_shown : Pin → List Record → List Piece → List ℕ
all_shown pin records pieces = concat (map (shown_in pin records) pieces)

-- ---- the content that a pin freezes

-- A pin of a file with this content: it has the content's size.
pub record IsPinOf (pin : Pin) (whole : List ℕ) : Type 0 where
  pub size : pin.mark.size ≡ length whole

-- an object, if it is held, is held as that content has it
abbrev pub IsRangeOf : ℕ → List ℕ → ℕ → Option (List ℕ) → Type 0
IsRangeOf stripe whole object None = Unit {0}
IsRangeOf stripe whole object (Some bytes) = bytes ≡ object_of stripe whole object

-- each held object is
abbrev pub AreRanges : Pin → List Record → List ℕ → Type 0
AreRanges pin records whole = (object : ℕ) → IsRangeOf pin.location.stripe whole object (held_in pin records object)
