-- The step of one file at an OSD.
use Rattle.std.specs.Prelude.{if◌then◌else◌, [], ◌∷◌}
use Rattle.xt_base.specs.declared.ids.NodeId.{NodeId}
use Rattle.xt_base.specs.declared.ids.OpId.{OpId}
use Rattle.xt_messages.specs.declared.file.Capability.{Capability}
use Rattle.xt_messages.specs.declared.file.Kind.{Kind}
use Rattle.xt_messages.specs.declared.file.Kind.TheVariants as kind
use Rattle.xt_messages.specs.declared.file.Op.{Op}
use Rattle.xt_messages.specs.declared.message.Payload.{Payload}
use Rattle.xt_messages.specs.declared.message.Payload.TheVariants as payload
use Rattle.xt_protocol.specs.LeaseRows.{LeaseState, Held, held, is_renewal_due, renewal_starts, round_starts}
use Rattle.xt_protocol.specs.declared.states.Acted.{Acted}
use Rattle.xt_protocol.specs.Turns.{sends, message}
use Rattle.xt_protocol.specs.ReplicaRows.{gathered, fetched_from, staged, headed, updated}
use Rattle.xt_protocol.specs.Primaries.{if_any}
use Rattle.xt_protocol.specs.PrimaryRows.{hears}
use Rattle.xt_protocol.specs.Serving.{wakes}
use Rattle.xt_protocol.specs.Asks.{asks_follow}
use Rattle.xt_protocol.specs.FileStates.{FileState, Site, FileStep, nothing, steps_to, and_then, serves_to, members_of, ground_of}
use Rattle.xt_protocol.specs.Overdue.{expired}
use Rattle.xt_protocol.specs.AskRows.{handle_ask, reads_of}
use Rattle.xt_protocol.specs.StripedRows.{handle_striped}
use Rattle.xt_protocol.specs.FileLeases.{read_comes, write_comes, answer_comes}

-- a row of the replica: its record, and its answer to whoever asked
abbrev pub replica_acts : Site → FileState → NodeId → Acted → FileStep
replica_acts site s from acted = steps_to s (record { rec = acted.rec; outs = if_any site.node from acted.answer; marks = [] })

-- an ask by the kind of its file
abbrev pub ask_comes : Site → FileState → Kind → OpId → Capability → Op → FileStep
ask_comes site s kind.Replicated id capability asked = handle_ask site s id capability asked
ask_comes site s kind.Striped id capability asked =
    replica_acts site s id.client (handle_striped site s.kept id capability asked)

-- a message to the primary: it counts only while the lease is held
abbrev pub primary_hears : Site → FileState → LeaseState → NodeId → Payload → FileStep
primary_hears site s (held h) from content =
    serves_to s (asks_follow (ground_of site s) s.primary.tenure s.asks (hears (ground_of site s) s.primary from content))
primary_hears site s _ from content = nothing s

-- A message that concerns the file, when nothing is overdue.
abbrev pub message_comes : Site → FileState → NodeId → Payload → FileStep
message_comes site s from (payload.Ask number capability asked) =
    ask_comes site s capability.location.kind (record { client = from; number = number }) capability asked
message_comes site s from (payload.Read file ballot) = read_comes site s from ballot
message_comes site s from (payload.Write file ballot boot lease) = write_comes site s from ballot boot lease
message_comes site s from (payload.Promise file ballot boot report) = answer_comes site s from (payload.Promise file ballot boot report)
message_comes site s from (payload.Accepted file ballot boot) = answer_comes site s from (payload.Accepted file ballot boot)
message_comes site s from (payload.Outrun file ballot seen) = answer_comes site s from (payload.Outrun file ballot seen)
message_comes site s from (payload.Gather file epoch) = replica_acts site s from (gathered s.kept.file s.kept.head epoch)
message_comes site s from (payload.Fetch file epoch object version) =
    steps_to s (sends (message site.node from (fetched_from s.kept.file s.kept.held (site.body s.kept.file) epoch object version) ∷ []))
message_comes site s from (payload.Stage file epoch object version bytes) =
    replica_acts site s from (staged s.kept.file s.kept.head s.kept.held epoch object version bytes)
message_comes site s from (payload.Head file epoch head) = replica_acts site s from (headed s.kept.file s.kept.head s.kept.held epoch head)
message_comes site s from (payload.Update file update) = replica_acts site s from (updated s.kept.file s.kept.head update)
message_comes site s from content = primary_hears site s s.lease from content

-- The step of a file on a message that concerns it: what is overdue, and then the message.
unfoldable pub step_of_file : Site → FileState → NodeId → Payload → FileStep
step_of_file site s from content = and_then (expired site s) (λ state. message_comes site state from content)

-- renewal starts, where it is due
abbrev pub renews : Site → FileState → Held → FileStep
renews site s h =
    let members = members_of s.kept.location in
    if is_renewal_due h site.now s.used
    then steps_to (record s { lease = held (renewal_starts h site.now members) }) (reads_of site s members (round_starts h.proposer site.now members))
    else nothing s

-- wakes, and then the renewal
abbrev pub wakes_under_lease : Site → FileState → LeaseState → FileStep
wakes_under_lease site s (held h) =
    and_then (steps_to s (wakes (ground_of site s).place s.primary)) (λ state. renews site state h)
wakes_under_lease site s _ = nothing s

-- The rows of a Wake for a file, when nothing is overdue.
unfoldable pub wake_of_file : Site → FileState → FileStep
wake_of_file site s = wakes_under_lease site s s.lease
