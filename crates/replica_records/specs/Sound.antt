-- what a folding knows of its rows: their lists rise, and are within their limits where the records were
use Rattle.std.specs.Prelude.{◌≤◌, Bool, List, length, IsTrue}
use Rattle.std.specs.List.{AllByRecursion}
use Rattle.xt_messages.specs.Limits.{FitsEpoch, FitsStamp, FitsOpId, FitsVersion, FitsSession, FitsHead, IsObject}
use Rattle.xt_messages.specs.declared.file.FileHead.{FileHead}
use Rattle.xt_messages.specs.declared.record.FileRow.{FileRow}
use Rattle.xt_messages.specs.declared.record.Record.{Record}
use Rattle.xt_messages.specs.declared.record.Record.TheVariants as kept
use Rattle.xt_messages.specs.declared.file.Update.{Update}
use Rattle.xt_base.specs.declared.TheConstants.{CLIENTS, OBJECTS}
use Rattle.xt_protocol.specs.Heads.{head_after}
use Rattle.object_versions.specs.Rising.{HeadRises}
use Rattle.replica_records.specs.RowPlaces.{FilesRise}

-- the head after an update has no version and no session too many
abbrev pub HasRoomFor : FileHead → Update → Type 0
HasRoomFor head update =
    (length (head_after head update).versions ≤ OBJECTS) × (length (head_after head update).sessions ≤ CLIENTS)

-- What a head keeps over updates: its promise and each row of its lists are within their limits, and the lists rise.
pub record FitsLists (head : FileHead) : Type 0 where
  pub promise : FitsEpoch head.promised
  pub objects : AllByRecursion FitsVersion head.versions
  pub clients : AllByRecursion FitsSession head.sessions
  pub rising : HeadRises head

-- a record leaves such a head of one
abbrev pub FitsFold : Record → Type 0
FitsFold (kept.Promise file epoch) = FitsEpoch epoch
FitsFold (kept.Update file update) = FitsStamp update.stamp × FitsOpId update.id × IsObject update.object
FitsFold (kept.Head file head) = FitsHead head
FitsFold (kept.Install file location head) = FitsHead head
FitsFold (kept.OldUpdate file update) = FitsStamp update.stamp × FitsOpId update.id × IsObject update.object
FitsFold (kept.OldHead file head) = FitsHead head
FitsFold (kept.OldInstall file location head) = FitsHead head
FitsFold _ = Unit {0}

-- the head is such a one where all records were within their limits
abbrev pub IsSoundRow : Bool → FileRow → Type 0
IsSoundRow within row = IsTrue within → FitsLists row.head

-- the rows of a folding
pub record AreSoundRows (within : Bool) (rows : List FileRow) : Type 0 where
  pub files : FilesRise rows
  pub each : AllByRecursion (IsSoundRow within) rows
