-- what a row of changing lists gives
use Rattle.std.specs.Prelude.{◌≡◌, ℕ, Bool, true, false, nat_le, None, List, []}
use Rattle.std.specs.List.{AllByRecursion}
use Rattle.xt_base.specs.declared.ids.NodeId.{NodeId}
use Rattle.xt_base.specs.declared.ids.FileId.{FileId}
use Rattle.xt_base.specs.declared.ids.Stamp.{Stamp}
use Rattle.xt_messages.specs.declared.file.FileHead.{FileHead}
use Rattle.xt_messages.specs.declared.file.Location.{Location}
use Rattle.xt_messages.specs.declared.message.Msg.{Msg}
use Rattle.xt_messages.specs.declared.message.Payload.{Payload}
use Rattle.xt_messages.specs.declared.message.Payload.TheVariants as payload
use Rattle.xt_messages.specs.declared.record.FileRow.{FileRow}
use Rattle.xt_protocol.specs.Turns.{sends}
use Rattle.xt_protocol.specs.ReplicaRows.{first_missing, stage_record}
use Rattle.xt_protocol.specs.FileStates.{FileState, Site, FileStep, steps_to}
use Rattle.list_rows.specs.ListRows.{list_version, is_version, closes, takes_list}

-- a message that is neither of the rows of one list nor an ask
abbrev pub is_aside : Payload → Bool
is_aside (payload.Reply number file answer) = true
is_aside (payload.Closed file version head) = true
is_aside (payload.Installed file version) = true
is_aside (payload.Pull file object version) = true
is_aside (payload.Pulled file object version bytes) = true
is_aside (payload.Wanted file) = true
is_aside _ = false

abbrev pub IsAside : Msg → Type 0
IsAside m = is_aside m.payload ≡ true

-- this Close is of the list's version, and the file isn't closed at it
pub record ClosesAt (row : FileRow) (content : Payload) (version : ℕ) : Type 0 where
  pub file : FileId
  pub is : content ≡ payload.Close file version
  pub same : version ≡ list_version row.location
  pub open_list : is_version version row.closed ≡ false

-- this Install is of a later list, and each version that its head names is held
pub record InstallsOn (row : FileRow) (content : Payload) (location : Location) (head : FileHead) : Type 0 where
  pub file : FileId
  pub source : NodeId
  pub is : content ≡ payload.Install file location head source
  pub later : nat_le location.version (list_version row.location) ≡ false
  pub held : first_missing row.held head.versions ≡ None

-- A row of its own leaves all as it is, and perhaps says something; it stages a body that comes; it closes the file; or it installs a list.
pub data RowGives (site : Site) (s : FileState) (from : NodeId) (content : Payload) (step : FileStep) : Type 0 where
  speaks : (outs : List Msg) → AllByRecursion IsAside outs → step ≡ steps_to s (sends outs) → RowGives site s from content step
  stages : (file : FileId) (object : ℕ) (version : Stamp) (bytes : List ℕ) (outs : List Msg) → content ≡ payload.Pulled file object version bytes
      → AllByRecursion IsAside outs
      → step ≡ steps_to s (record { rec = stage_record s.kept.file s.kept.held object version bytes; outs = outs; marks = [] }) → RowGives site s from content step
  closing : (version : ℕ) → ClosesAt s.kept content version → step ≡ closes site s from version → RowGives site s from content step
  installing : (location : Location) (head : FileHead) → InstallsOn s.kept content location head → step ≡ takes_list site s from location head
      → RowGives site s from content step
