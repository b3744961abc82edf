-- the step of an OSD where lists change
use Rattle.std.specs.Prelude.{ℕ, max, Option, Some, None, List, [], ◌∷◌}
use Rattle.xt_base.specs.declared.ids.FileId.{FileId}
use Rattle.xt_messages.specs.declared.message.Payload.{Payload}
use Rattle.xt_messages.specs.declared.message.Payload.TheVariants as payload
use Rattle.xt_messages.specs.declared.message.Msg.{Msg}
use Rattle.xt_messages.specs.declared.event.Event.{Event}
use Rattle.xt_messages.specs.declared.event.Event.TheVariants as event
use Rattle.xt_protocol.specs.LeaseRows.{Awake, awake_at}
use Rattle.xt_protocol.specs.Turns.{quiet, sends, joined}
use Rattle.xt_protocol.specs.FileStates.{FileState, Site}
use Rattle.xt_protocol.specs.Overdue.{expired}
use Rattle.xt_protocol.specs.OsdSteps.{Outside, OsdState, OsdStep, FilesStep, file_at, with_file, each_file, file_concerned, asks_dir}
use Rattle.list_rows.specs.ListRows.{step_of_message, wake_of_listed}

-- the file that a message concerns, if any: those of closing, installing and pulling concern theirs too
abbrev pub file_named : Payload → Option FileId
file_named (payload.Close file version) = Some file
file_named (payload.Closed file version head) = Some file
file_named (payload.Install file location head source) = Some file
file_named (payload.Installed file version) = Some file
file_named (payload.Pull file object version) = Some file
file_named (payload.Pulled file object version bytes) = Some file
file_named (payload.Wanted file) = Some file
file_named content = file_concerned content

-- a message: the step of the file that it concerns
abbrev pub takes_message : Site → Awake → List FileState → Msg → Option FileId → FilesStep
takes_message site awake files msg None = record { files = files; turned = quiet }
takes_message site awake files msg (Some file) =
    let step = step_of_message site (file_at awake files file) msg.from msg.list msg.payload in
    record { files = with_file files step.state; turned = step.turned }

-- A Wake: the DIR is asked; then what is overdue at each file; then the rows of a Wake for each file.
abbrev pub all_wake : Site → List FileState → FilesStep
all_wake site files =
    let settled = each_file (expired site) files in
    let woke = each_file (wake_of_listed site) settled.files in
    record { files = woke.files; turned = joined (sends (asks_dir site.node ∷ [])) (joined settled.turned woke.turned) }

abbrev pub takes_event : Site → Awake → List FileState → Event → FilesStep
takes_event site awake files (event.Deliver msg) = takes_message site awake files msg (file_named msg.payload)
takes_event site awake files event.Wake = all_wake site files
takes_event site awake files (event.Call call) = record { files = files; turned = quiet }

-- in silence nothing comes of an event
abbrev pub taken_awake : Outside → OsdState → ℕ → Event → Option Awake → OsdStep
taken_awake outside osd now happens None = record { osd = osd; turned = quiet }
taken_awake outside osd now happens (Some awake) =
    let site : Site = record { node = awake.node; times = awake.times; now = now; sealed = outside.sealed; body = outside.body } in
    let step = takes_event site awake osd.files happens in
    record { osd = record { started = osd.started; last = now; files = step.files }; turned = step.turned }

-- The step of an OSD on an event, at the greater of the clock's reading and the clock that it used last.
unfoldable pub step_with_lists : Outside → OsdState → ℕ → Event → OsdStep
step_with_lists outside osd reading happens =
    let now = max reading osd.last in
    taken_awake outside osd now happens (awake_at osd.started now)
