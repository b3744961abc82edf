-- a file of an OSD: its row, until it is used, and a file from then on
use Rattle.std.specs.Prelude.{ℕ, ◌≡◌, Bool, true, false, List}
use Rattle.xt_base.specs.declared.ids.FileId.{FileId}
use Rattle.xt_messages.specs.declared.record.KeepBody.{KeepBody}
use Rattle.xt_protocol.specs.Forgetting.{file_without}
use Rattle.xt_protocol.specs.LeaseRows.{Awake}
use Rattle.xt_protocol.specs.FileStates.{FileState, file_from}
use Rattle.osd_files.specs.Views.{FileView}
use Rattle.osd_files.specs.Whole.{RowRises, IsWoken, Wakes}
use Rattle.osd_files.specs.declared.waking.Woken.{Woken}
use Rattle.osd_core.specs.declared.slot.Slot.{Slot}
use Rattle.osd_core.specs.declared.slot.Slot.TheVariants as slot

-- the file that a slot is of
abbrev pub id_of : Slot → FileId
id_of (slot.Row row) = row.file
id_of (slot.File file) = file.state.kept.file

-- the state of its file: as a file starts, while it is a row
abbrev pub state_of : Awake → Slot → FileState
state_of awake (slot.Row row) = file_from awake row
state_of awake (slot.File file) = file.state

abbrev pub view_of : Awake → Slot → FileView
view_of awake s = record { awake = awake; state = state_of awake s }

-- a row rises, and a file is at this OSD
abbrev pub IsSoundSlot : Awake → Slot → Type 0
IsSoundSlot awake (slot.Row row) = RowRises row
IsSoundSlot awake (slot.File file) = file.awake ≡ awake

-- whether its file rests, so that a Wake has nothing to do at it: one that is a row does
abbrev pub slot_rests : Slot → Bool
slot_rests (slot.Row row) = true
slot_rests (slot.File file) = false

-- what a Wake gives at a slot's file
abbrev pub GivesWoken : ℕ → Slot → Woken → Type 0
GivesWoken now s woken = (awake : Awake) → IsSoundSlot awake s → Wakes now (view_of awake s) woken

-- A slot after a Wake at its file. It stays as sound, and rests if it did.
pub record EndsSlot (now : ℕ) (old new : Slot) : Type 0 where
  pub sound : (awake : Awake) → IsSoundSlot awake old → IsSoundSlot awake new
  pub file : (awake : Awake) → IsSoundSlot awake old → IsWoken now (view_of awake old) (view_of awake new)
  pub rests : slot_rests new ≡ slot_rests old

-- A slot whose file has forgotten the held bodies that aren't among these. It is of the same file, stays as sound, and rests if it did.
pub record ForgetsSlot (keep : List KeepBody) (old new : Slot) : Type 0 where
  pub file : id_of new ≡ id_of old
  pub state : (awake : Awake) → state_of awake new ≡ file_without keep (state_of awake old)
  pub sound : (awake : Awake) → IsSoundSlot awake old → IsSoundSlot awake new
  pub rests : slot_rests new ≡ slot_rests old
