-- The step of an OSD.
use Rattle.std.specs.Prelude.{ℕ, Bool, if◌then◌else◌, max, Option, Some, None, List, [], ◌∷◌, map}
use Rattle.xt_base.specs.declared.ids.NodeId.{NodeId}
use Rattle.xt_base.specs.declared.ids.FileId.{FileId}
use Rattle.xt_base.specs.declared.ids.Stamp.{Stamp}
use Rattle.xt_messages.specs.declared.file.Capability.{Capability}
use Rattle.xt_messages.specs.declared.registry.RegistryReq.TheVariants as registry
use Rattle.xt_messages.specs.declared.message.Payload.{Payload}
use Rattle.xt_messages.specs.declared.message.Payload.TheVariants as payload
use Rattle.xt_messages.specs.declared.message.Msg.{Msg}
use Rattle.xt_messages.specs.declared.event.Event.{Event}
use Rattle.xt_messages.specs.declared.event.Event.TheVariants as event
use Rattle.xt_messages.specs.declared.record.FileRow.{FileRow}
use Rattle.xt_protocol.specs.declared.turned.Turned.{Turned}
use Rattle.xt_protocol.specs.FileIds.{is_file, is_before}
use Rattle.xt_protocol.specs.Folds.{new_row}
use Rattle.xt_protocol.specs.LeaseRows.{Silent, Awake, awake_at}
use Rattle.xt_protocol.specs.Turns.{quiet, sends, joined, message}
use Rattle.xt_protocol.specs.FileStates.{FileState, Site, FileStep, file_from}
use Rattle.xt_protocol.specs.Overdue.{expired}
use Rattle.xt_protocol.specs.FileSteps.{step_of_file, wake_of_file}

-- The state of an OSD: when it started and as what, the clock that it used last, and its files, rising.
pub record OsdState : Type 0 where
  pub started : Silent
  pub last : ℕ
  pub files : List FileState

-- an OSD after a step, and what the step gives
pub record OsdStep : Type 0 where
  pub osd : OsdState
  pub turned : Turned

-- What is outside an OSD: whose capabilities are sealed, and what a body is.
pub record Outside : Type 0 where
  pub sealed : Capability → Bool
  pub body : FileId → ℕ → Stamp → List ℕ

-- an OSD that starts, from the rows that its records fold to
abbrev pub osd_from : Silent → List FileRow → OsdState
osd_from started rows =
    let awake : Awake = record { node = started.node; boot = started.boot; times = started.times } in
    record { started = started; last = started.start; files = map (file_from awake) rows }

-- Files.

-- the state of a file: a new one where it wasn't met yet
unfoldable pub file_at : Awake → List FileState → FileId → FileState
file_at awake [] file = file_from awake (new_row file)
file_at awake (f ∷ fs) file = if is_file f.kept.file file then f else file_at awake fs file

-- the files with this one, in its place
unfoldable pub with_file : List FileState → FileState → List FileState
with_file [] file = file ∷ []
with_file (f ∷ fs) file =
    if is_file f.kept.file file.kept.file then file ∷ fs
    else if is_before file.kept.file f.kept.file then file ∷ f ∷ fs
    else f ∷ with_file fs file

-- the files after a step of each, and what these steps give
pub record FilesStep : Type 0 where
  pub files : List FileState
  pub turned : Turned

-- a step of each file, in order
unfoldable pub each_file : (FileState → FileStep) → List FileState → FilesStep
each_file step [] = record { files = []; turned = quiet }
each_file step (f ∷ fs) =
    let one = step f in
    let others = each_file step fs in
    record { files = one.state ∷ others.files; turned = joined one.turned others.turned }

-- Events.

-- the file that a message concerns, if any
abbrev pub file_concerned : Payload → Option FileId
file_concerned (payload.Read file ballot) = Some file
file_concerned (payload.Promise file ballot boot report) = Some file
file_concerned (payload.Write file ballot boot lease) = Some file
file_concerned (payload.Accepted file ballot boot) = Some file
file_concerned (payload.Outrun file ballot seen) = Some file
file_concerned (payload.Gather file epoch) = Some file
file_concerned (payload.Status file epoch head) = Some file
file_concerned (payload.Fetch file epoch object version) = Some file
file_concerned (payload.Object file epoch object version bytes) = Some file
file_concerned (payload.Stage file epoch object version bytes) = Some file
file_concerned (payload.Staged file epoch object version) = Some file
file_concerned (payload.Head file epoch head) = Some file
file_concerned (payload.Update file update) = Some file
file_concerned (payload.Ack file stamp) = Some file
file_concerned (payload.Refused file epoch promised) = Some file
file_concerned (payload.Behind file epoch stamp) = Some file
file_concerned (payload.Missing file epoch object version) = Some file
file_concerned (payload.Ask number capability asked) = Some capability.file
file_concerned (payload.Reply number file answer) = Some file
file_concerned _ = None

-- a message: the step of the file that it concerns
abbrev pub handle_message : Site → Awake → List FileState → Msg → Option FileId → FilesStep
handle_message site awake files msg None = record { files = files; turned = quiet }
handle_message site awake files msg (Some file) =
    let step = step_of_file site (file_at awake files file) msg.from msg.payload in
    record { files = with_file files step.state; turned = step.turned }

-- what asks the DIR for the OSDs
abbrev pub asks_dir : NodeId → Msg
asks_dir node = message node (record { 0 = 900 }) (payload.Registry 0 (registry.List 1 (record { 0 = 0 })))

-- A Wake: the DIR is asked; then what is overdue at each file; then the rows of a Wake for each file.
abbrev pub woken : Site → List FileState → FilesStep
woken site files =
    let settled = each_file (expired site) files in
    let woke = each_file (wake_of_file site) settled.files in
    record { files = woke.files; turned = joined (sends (asks_dir site.node ∷ [])) (joined settled.turned woke.turned) }

abbrev pub handle_event : Site → Awake → List FileState → Event → FilesStep
handle_event site awake files (event.Deliver msg) = handle_message site awake files msg (file_concerned msg.payload)
handle_event site awake files event.Wake = woken site files
handle_event site awake files (event.Call call) = record { files = files; turned = quiet }

-- in silence nothing comes of an event
abbrev pub handled_awake : Outside → OsdState → ℕ → Event → Option Awake → OsdStep
handled_awake outside osd now happens None = record { osd = osd; turned = quiet }
handled_awake outside osd now happens (Some awake) =
    let site : Site = record { node = awake.node; times = awake.times; now = now; sealed = outside.sealed; body = outside.body } in
    let step = handle_event site awake osd.files happens in
    record { osd = record { started = osd.started; last = now; files = step.files }; turned = step.turned }

-- The step of an OSD on an event, at the greater of the clock's reading and the clock that it used last.
unfoldable pub step_of_osd : Outside → OsdState → ℕ → Event → OsdStep
step_of_osd outside osd reading happens =
    let now = max reading osd.last in
    handled_awake outside osd now happens (awake_at osd.started now)
