-- what an ask makes of a file's list and of its open asks, and what a Fetch gives
use Rattle.std.specs.Prelude.{ℕ, Bool, false, Option, Some, None, [], ◌∷◌, if◌then◌else◌, is_some}
use Rattle.xt_base.specs.declared.ids.NodeId.{NodeId}
use Rattle.xt_base.specs.declared.ids.Epoch.{Epoch}
use Rattle.xt_base.specs.declared.ids.Stamp.{Stamp}
use Rattle.xt_base.specs.declared.ids.FileId.{FileId}
use Rattle.xt_protocol.specs.FileStates.{FileState, Site, FileStep, steps_to}
use Rattle.xt_protocol.specs.ReplicaRows.{fetched_from}
use Rattle.xt_protocol.specs.Turns.{sends, message}
use Rattle.xt_messages.specs.declared.file.Location.{Location}
use Rattle.xt_messages.specs.declared.record.Record.{Record}
use Rattle.xt_messages.specs.declared.record.Record.TheVariants as kept
use Rattle.xt_protocol.specs.declared.states.Asks.{Asks}
use Rattle.xt_protocol.specs.declared.states.WaitingAsk.{WaitingAsk}

-- the record of a file's first list
abbrev pub first_list : FileId → Location → Option Location → Option Record
first_list file location None = Some (kept.View file location)
first_list file location (Some stored) = None

-- the list that is stored then
abbrev pub list_after : Option Location → Location → Option Location
list_after None location = Some location
list_after (Some stored) location = Some stored

-- the asks once a write was answered, refused or issued, where this says whether an update is issued
abbrev pub asks_once_done : Asks → Bool → WaitingAsk → Asks
asks_once_done asks issued ask =
    if is_some asks.issued then asks
    else record asks { issued = if issued then Some (record { ask = ask; told = false }) else None }

-- the answer to a Fetch
abbrev pub fetch_row : Site → FileState → NodeId → Epoch → ℕ → Stamp → FileStep
fetch_row site s from epoch object version =
    steps_to s (sends (message site.node from (fetched_from s.kept.file s.kept.held (site.body s.kept.file) epoch object version) ∷ []))
