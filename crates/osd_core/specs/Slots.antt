-- the files of an OSD: each as its row, until it is used, and as a file from then on; and those at which a Wake may have something to do
use Rattle.std.specs.Prelude.{ℕ, Bool, false, true, ◌≡◌, Option, Some, None, List, [], ◌∷◌, map}
use Rattle.std.specs.List.{AllByRecursion, list_any}
use Rattle.std.specs.BTreeMap.{BTreeMap, IsOrdered, Updates, WritesThrough, get, insert_entry, is_at}
use Rattle.xt_base.specs.declared.ids.FileId.{FileId}
use Rattle.xt_base.specs.declared.ids.Stamp.{Stamp}
use Rattle.xt_messages.specs.declared.file.Capability.{Capability}
use Rattle.xt_messages.specs.declared.record.FileRow.{FileRow}
use Rattle.xt_messages.specs.declared.record.KeepBody.{KeepBody}
use Rattle.xt_protocol.specs.FileIds.{file_cmp}
use Rattle.xt_protocol.specs.Folds.{new_row}
use Rattle.xt_protocol.specs.LeaseRows.{Silent, Awake}
use Rattle.xt_protocol.specs.declared.turned.Turned.{Turned}
use Rattle.replica_records.specs.RowPlaces.{FilesRise}
use Rattle.xt_protocol.specs.FileStates.{FileState}
use Rattle.xt_protocol.specs.Overdue.{expired}
use Rattle.xt_protocol.specs.FileSteps.{wake_of_file}
use Rattle.xt_protocol.specs.Turns.{joined}
use Rattle.xt_protocol.specs.OsdSteps.{FilesStep, each_file}
use Rattle.osd_files.specs.Views.{FileView, site_at}
use Rattle.osd_files.specs.Whole.{RowRises}
use Rattle.osd_files.specs.declared.waking.Woken.{Woken}
use Rattle.osd_core.specs.declared.slot.Slot.{Slot}
use Rattle.osd_core.specs.declared.slot.Slot.TheVariants as slot
use Rattle.osd_core.specs.declared.met.MetFiles.{MetFiles}
use Rattle.osd_core.specs.FileSlots.{id_of, state_of, view_of, slot_rests, EndsSlot, ForgetsSlot, GivesWoken, IsSoundSlot}

-- an OSD, once its silence is over
abbrev pub awake_of : Silent → Awake
awake_of s = record { node = s.node; boot = s.boot; times = s.times }

-- the slots with their files, rising by file
abbrev pub Slots : Type 0
Slots = List (FileId × Slot)

-- the states of the files
abbrev pub states_of : Awake → Slots → List FileState
states_of awake slots = map (λ e. state_of awake e.1) slots

-- whether a file is among these
abbrev pub is_among : List FileId → FileId → Bool
is_among files file = list_any (is_at (file_cmp file)) files

-- The slot of a file: it is of this file, and sound, and the file rests unless it is busy.
pub record IsSlotOf (awake : Awake) (busy : FileId → Bool) (file : FileId) (s : Slot) : Type 0 where
  pub own : id_of s ≡ file
  pub sound : IsSoundSlot awake s
  pub resting : busy file ≡ false → slot_rests s ≡ true

-- the slots of an OSD, of whose files these are busy
pub record AreSlots (awake : Awake) (busy : FileId → Bool) (slots : BTreeMap FileId Slot) : Type 0 where
  pub rising : IsOrdered file_cmp slots
  pub each : (file : FileId) (s : Slot) → get file_cmp slots file ≡ Some s → IsSlotOf awake busy file s

-- the files that an OSD has met
abbrev pub AreMet : Awake → MetFiles → Type 0
AreMet awake met = AreSlots awake (is_among met.busy.keys) met.slots

-- A step of the files: they stay those that an OSD has met, and it is this row on their states.
pub record StepsFiles (row : List FileState → FilesStep) (awake : Awake) (old new : MetFiles) (turned : Turned) : Type 0 where
  pub met : AreMet awake new
  pub step : row (states_of awake old.slots.entries) ≡ record { files = states_of awake new.slots.entries; turned = turned }

-- They stay the files that an OSD has met, in the states that they had.
pub record SameFiles (awake : Awake) (old new : MetFiles) : Type 0 where
  pub met : AreMet awake new
  pub files : states_of awake new.slots.entries ≡ states_of awake old.slots.entries

-- ---- a message

-- this slot was put at a file
pub record PutsSlot (file : FileId) (s : Slot) (old new : BTreeMap FileId Slot) : Type 0 where
  pub entries : new.entries ≡ insert_entry file_cmp old.entries file s
  pub updates : Updates file_cmp old new file (Some s)
  pub rising : IsOrdered file_cmp new

-- A slot was put at a file that had none: it is sound, and what this says is done to a new row.
pub record PutsNew (done : FileView → FileView → Type 0) (awake : Awake) (file : FileId) (old new : BTreeMap FileId Slot) : Type 0 where
  pub made : Slot
  pub sound : IsSoundSlot awake made
  pub step : done (view_of awake (slot.Row (new_row file))) (view_of awake made)
  pub put : PutsSlot file made old new

-- ---- a Wake

-- what a Wake gives at a file, after what others gave: nothing where it has no slot
abbrev pub GivesMore : ℕ → Option Slot → Woken → Woken → Type 0
GivesMore now None before after = after ≡ before
GivesMore now (Some s) before after =
    (next : Woken) × GivesWoken now s next × (after.overdue ≡ joined before.overdue next.overdue) × (after.again ≡ joined before.again next.again)

-- What a Wake gives at all files: what is overdue at each, and then what the rows of a Wake give at each.
pub record GivesAll (now : ℕ) (awake : Awake) (files : List FileState) (woken : Woken) : Type 0 where
  pub overdue : (sealed : Capability → Bool) (body : FileId → ℕ → Stamp → List ℕ)
      → (each_file (expired (site_at awake now sealed body)) files).turned ≡ woken.overdue
  pub again : (sealed : Capability → Bool) (body : FileId → ℕ → Stamp → List ℕ)
      → (each_file (wake_of_file (site_at awake now sealed body)) (each_file (expired (site_at awake now sealed body)) files).files).turned ≡ woken.again

-- the same of the files that an OSD has met
abbrev pub GivesMet : ℕ → MetFiles → Woken → Type 0
GivesMet now met woken = (awake : Awake) → AreMet awake met → GivesAll now awake (states_of awake met.slots.entries) woken

-- a file after a Wake, if it has a slot
abbrev pub EndsAt : ℕ → FileId → BTreeMap FileId Slot → BTreeMap FileId Slot → Option Slot → Type 0
EndsAt now file old new None = new ≡ old
EndsAt now file old new (Some s) = (woke : Slot) × EndsSlot now s woke × WritesThrough file_cmp (file_cmp file) old woke new

-- All slots after a Wake, where these files are busy.
pub record EndsAll (now : ℕ) (awake : Awake) (busy : FileId → Bool) (old new : BTreeMap FileId Slot) : Type 0 where
  pub slots : AreSlots awake busy new
  pub files : (sealed : Capability → Bool) (body : FileId → ℕ → Stamp → List ℕ)
      → (each_file (wake_of_file (site_at awake now sealed body)) (each_file (expired (site_at awake now sealed body)) (states_of awake old.entries)).files).files
      ≡ states_of awake new.entries

-- a Wake done at the busy files alone, which is one of all
abbrev pub EndsBusy : ℕ → List FileId → BTreeMap FileId Slot → BTreeMap FileId Slot → Type 0
EndsBusy now files old new = (awake : Awake) → AreSlots awake (is_among files) old → EndsAll now awake (is_among files) old new

-- ---- what is forgotten

-- The slots of the same files, each of which has forgotten the held bodies that aren't among these.
abbrev pub ForgetsAll : List KeepBody → Slots → Slots → Type 0
ForgetsAll keep [] new = new ≡ []
ForgetsAll keep (e ∷ es) new = (s : Slot) × (rest : Slots) × ForgetsSlot keep e.1 s × ForgetsAll keep es rest × (new ≡ (e.0, s) ∷ rest)

-- the files that were met, once they have forgotten them
pub record ForgetsMet (keep : List KeepBody) (old new : MetFiles) : Type 0 where
  pub slots : ForgetsAll keep old.slots.entries new.slots.entries
  pub rising : IsOrdered file_cmp new.slots
  pub busy : new.busy ≡ old.busy

-- ---- the rows of a start

-- what records say of files: they rise by file, and so do the lists of each
pub record AreRows (rows : List FileRow) : Type 0 where
  pub files : FilesRise rows
  pub each : AllByRecursion RowRises rows

-- rows as slots
abbrev pub slots_from : List FileRow → Slots
slots_from rows = map (λ row. (row.file, slot.Row row)) rows
