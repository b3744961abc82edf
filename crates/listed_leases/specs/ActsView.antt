-- what a step of a file marks and records, where lists change
use Rattle.std.specs.Prelude.{◌≡◌, ℕ, true, Option, Some, None, []}
use Rattle.xt_base.specs.declared.ids.NodeId.{NodeId}
use Rattle.xt_messages.specs.declared.file.Location.{Location}
use Rattle.xt_messages.specs.declared.message.Payload.{Payload}
use Rattle.xt_messages.specs.declared.record.FileRow.{FileRow}
use Rattle.xt_messages.specs.declared.record.Record.{Record}
use Rattle.xt_messages.specs.declared.record.Record.TheVariants as kept
use Rattle.xt_protocol.specs.LeaseRows.{Awake, LeaseState, free, asking, writing, held}
use Rattle.xt_protocol.specs.FileStates.{FileState, Site, file_from}
use Rattle.xt_protocol.specs.Overdue.{expired}
use Rattle.lease_runs.specs.LeaseView.{settled_row}
use Rattle.lease_runs.specs.ActsView.{ListAsked, MarksAre}
use Rattle.list_rows.specs.ListRows.{is_closed, step_of_message}
use Rattle.list_laws.specs.Outcomes.{ClosesAt, InstallsOn}
use Rattle.listed_leases.specs.LeaseView.{listed_wake}

-- the first list is stored, as an ask names it
pub record StoresFirst (row : FileRow) (content : Payload) (location : Location) : Type 0 where
  pub asked : ListAsked content location
  pub version : location.version ≡ 1
  pub unlisted : row.location ≡ None

-- The record of a step is of the step's file. One that stores a list stores the first, as an ask names it, or a later one, as an Install
-- does; and one that closes the file does so at the version of the list, as a Close does.
abbrev pub RecordIs : FileRow → Payload → Option Record → Type 0
RecordIs row content None = Unit {0}
RecordIs row content (Some (kept.Promise f epoch)) = f ≡ row.file
RecordIs row content (Some (kept.Update f update)) = f ≡ row.file
RecordIs row content (Some (kept.Stage f object version bytes)) = f ≡ row.file
RecordIs row content (Some (kept.Head f head)) = f ≡ row.file
RecordIs row content (Some (kept.View f location)) = (f ≡ row.file) × StoresFirst row content location
RecordIs row content (Some (kept.Close f version)) = (f ≡ row.file) × ClosesAt row content version
RecordIs row content (Some (kept.Install f location head)) = (f ≡ row.file) × InstallsOn row content location head
RecordIs row content (Some _) = ⊥

-- What the steps of a file mark and record: a message, and a Wake.
pub record ShowsActs : Type 0 where
  pub marks : (site : Site) (s : FileState) (from : NodeId) (list : ℕ) (content : Payload)
      → MarksAre s.kept.file (settled_row site s).lease (step_of_message site s from list content).turned.marks
  pub rec : (site : Site) (s : FileState) (from : NodeId) (list : ℕ) (content : Payload) → RecordIs s.kept content (step_of_message site s from list content).turned.rec
  pub wake_marks : (site : Site) (s : FileState) → (listed_wake site s).turned.marks ≡ []
  pub wake_rec : (site : Site) (s : FileState) → (listed_wake site s).turned.rec ≡ None

-- Neither a round nor a lease.
abbrev pub IsFree : LeaseState → Type 0
IsFree (free p) = Unit {0}
IsFree (asking r) = ⊥
IsFree (writing r) = ⊥
IsFree (held h) = ⊥

-- a closed file has neither
abbrev pub ClosedIsFree : FileState → Type 0
ClosedIsFree s = is_closed s.kept ≡ true → IsFree s.lease

-- A file that is closed at the version of its list has no round and no lease, at every moment.
pub record ClosedStayFree : Type 0 where
  pub start : (awake : Awake) (row : FileRow) → ClosedIsFree (file_from awake row)
  pub expiry : (site : Site) (s : FileState) → ClosedIsFree s → ClosedIsFree (expired site s).state
  pub message : (site : Site) (s : FileState) (from : NodeId) (list : ℕ) (content : Payload) → ClosedIsFree s → ClosedIsFree (step_of_message site s from list content).state
  pub wake : (site : Site) (s : FileState) → ClosedIsFree s → ClosedIsFree (listed_wake site s).state
