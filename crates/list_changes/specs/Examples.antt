-- a change of a file from one OSD to another, as the metadata server carries it out: where the file is, and what a new request would be told
use Rattle.std.specs.Prelude.{ℕ, Option, List, [], ◌∷◌}
use Rattle.xt_messages.specs.declared.file.Location.{Location}
use Rattle.xt_messages.specs.declared.meta.MetaRefusal.{MetaRefusal}
use Rattle.xt_messages.specs.declared.message.Payload.{Payload}
use Rattle.xt_messages.specs.declared.message.Payload.TheVariants as payload
use Rattle.xt_messages.specs.declared.event.Event.{Event}
use Rattle.xt_messages.specs.declared.event.Event.TheVariants as event
use Rattle.server_rows.specs.Metadata.{mrc_of}
use Rattle.change_rows.specs.Coordinating.{version_to_come}
use Rattle.change_rows.specs.Examples.{osd, some_file, some_times, on_nodes, epoch, head_of, begun}
use Rattle.list_changes.specs.Lists.{location_in, at_rest}
use Rattle.list_changes.specs.Steps.{ChangingMrc, ChangingStep, step_with_changes}

-- a key, of which only tags speak
abbrev pub key : List ℕ
key = 0 ∷ []

-- a server that has begun to change the list of a file on OSD 1 to OSD 2
abbrev pub changing : ChangingMrc
changing = record { mrc = mrc_of key [] 1000; running = begun }

abbrev pub step_at : ℕ → Event → ChangingMrc → ChangingStep
step_at clock happens s = step_with_changes key some_times s clock happens

-- what an OSD sends to the server
abbrev pub from_osd : ℕ → Payload → Event
from_osd number content = event.Deliver (record { from = osd number; to = osd 901; list = 1; payload = content })

abbrev pub first_wake : ChangingStep
first_wake = step_at 1100 event.Wake changing

abbrev pub closed_once : ChangingStep
closed_once = step_at 1100 (from_osd 1 (payload.Closed some_file 1 (head_of (epoch 1 1) 1))) first_wake.server

abbrev pub early_wake : ChangingStep
early_wake = step_at 2199 event.Wake closed_once.server

abbrev pub late_wake : ChangingStep
late_wake = step_at 2200 event.Wake early_wake.server

abbrev pub installed_once : ChangingStep
installed_once = step_at 2200 (from_osd 2 (payload.Installed some_file 2)) late_wake.server

-- where the file is
abbrev pub place_in : ChangingStep → Location
place_in step = location_in step.server.running some_file (on_nodes 1 (osd 1 ∷ []))

-- why another change of the file can't begin
abbrev pub refusal_in : ChangingStep → Option MetaRefusal
refusal_in step = at_rest (version_to_come step.server.running some_file)
