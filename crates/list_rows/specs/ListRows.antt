-- what an OSD does where the list of a file changes: the rows of closing, installing and pulling, and the tests before the rows of one list
use Rattle.std.specs.Prelude.{ℕ, Bool, false, ◌&&◌, ◌||◌, ◌==◌, nat_lt, nat_le, not, if◌then◌else◌, ◌+◌, ◌^◌, Option, Some, None, List, [], ◌∷◌, map}
use Rattle.xt_messages.specs.Limits.{is_of_list}
use Rattle.xt_base.specs.declared.TheConstants.{MRC_NODE}
use Rattle.xt_base.specs.declared.ids.NodeId.{NodeId}
use Rattle.xt_base.specs.declared.ids.OpId.{OpId}
use Rattle.xt_base.specs.declared.ids.Stamp.{Stamp}
use Rattle.xt_messages.specs.declared.file.Location.{Location}
use Rattle.xt_messages.specs.declared.file.Kind.{Kind}
use Rattle.xt_messages.specs.declared.file.Kind.TheVariants as kind
use Rattle.xt_messages.specs.declared.file.Capability.{Capability}
use Rattle.xt_messages.specs.declared.file.FileHead.{FileHead}
use Rattle.xt_messages.specs.declared.file.ObjectVersion.{ObjectVersion}
use Rattle.xt_messages.specs.declared.file.Op.{Op}
use Rattle.xt_messages.specs.declared.reply.Denial.{Denial}
use Rattle.xt_messages.specs.declared.reply.Reply.TheVariants as reply
use Rattle.xt_messages.specs.declared.message.Payload.{Payload}
use Rattle.xt_messages.specs.declared.message.Payload.TheVariants as payload
use Rattle.xt_messages.specs.declared.message.Msg.{Msg}
use Rattle.xt_messages.specs.declared.record.FileRow.{FileRow}
use Rattle.xt_messages.specs.declared.record.Record.TheVariants as kept
use Rattle.xt_protocol.specs.declared.turned.Turned.{Turned}
use Rattle.xt_protocol.specs.Folds.{body_of}
use Rattle.xt_protocol.specs.Stamps.{has_version}
use Rattle.xt_protocol.specs.Register.{new_acceptor}
use Rattle.xt_protocol.specs.LeaseRows.{LeaseState, Proposer, free, asking, writing, held, round_over}
use Rattle.xt_protocol.specs.ReplicaRows.{stage_record, first_missing}
use Rattle.xt_protocol.specs.Turns.{sends, message}
use Rattle.xt_protocol.specs.FileStates.{FileState, Site, FileStep, nothing, steps_to, and_then}
use Rattle.xt_protocol.specs.Overdue.{expired, lease_lapses}
use Rattle.xt_protocol.specs.AskRows.{capability_refused, turned_off, handle_ask}
use Rattle.xt_protocol.specs.FileSteps.{message_comes, ask_comes, wake_of_file}

-- The version of a node's list.

-- that of the stored list, and the first one where none is stored
abbrev pub list_version : Option Location → ℕ
list_version None = 1
list_version (Some location) = location.version

abbrev pub is_version : ℕ → Option ℕ → Bool
is_version version None = false
is_version version (Some closed) = closed == version

-- whether the file is closed at the version of its list
abbrev pub is_closed : FileRow → Bool
is_closed row = is_version (list_version row.location) row.closed

-- A message of the rows of one list carries the version of the list.

abbrev pub as_version : ℕ → Msg → Msg
as_version version m = if is_of_list m.payload then record m { list = version } else m

abbrev pub with_version : ℕ → FileStep → FileStep
with_version version step =
    record { state = step.state; turned = record step.turned { outs = map (as_version version) step.turned.outs } }

-- Closed, and installed.

-- who asks for the lease again, once a round has ended or a lease was let go
abbrev pub proposer_of : LeaseState → Proposer
proposer_of (free p) = p
proposer_of (asking r) = round_over r
proposer_of (writing r) = round_over r
proposer_of (held h) = h.proposer

-- let go: the round and the renewal end, there is no lease, the primary is idle, and all asks get that there is no lease
abbrev pub lets_go : Site → FileState → FileStep
lets_go site s = lease_lapses site (record s { lease = free (proposer_of s.lease) })

-- the head of the closed file
abbrev pub tells_closed : Site → FileState → NodeId → ℕ → Turned
tells_closed site s from version = sends (message site.node from (payload.Closed s.kept.file version s.kept.head) ∷ [])

-- closed: the record, the answers to all asks, and then the head
abbrev pub closes : Site → FileState → NodeId → ℕ → FileStep
closes site s from version =
    and_then (lets_go site s)
    (λ state. steps_to state (record (tells_closed site state from version) { rec = Some (kept.Close s.kept.file version) }))

-- a Close comes: of a version at which the file is closed, the head is told again; of the version of the list, it is closed; of another one
-- nothing comes
unfoldable pub close_comes : Site → FileState → NodeId → ℕ → FileStep
close_comes site s from version =
    if is_version version s.kept.closed then steps_to s (tells_closed site s from version)
    else if version == list_version s.kept.location then closes site s from version
    else nothing s

abbrev pub tells_installed : Site → FileState → NodeId → Location → Turned
tells_installed site s from location = sends (message site.node from (payload.Installed s.kept.file location.version) ∷ [])

-- list taken: it is kept with its head, and a new acceptor begins; the count of rounds, the last end, the last use and what was learnt
-- of epochs go on
abbrev pub takes_list : Site → FileState → NodeId → Location → FileHead → FileStep
takes_list site s from location head =
    and_then (lets_go site (record s { acceptor = new_acceptor s.acceptor.boot }))
    (λ state. steps_to state (record (tells_installed site state from location) { rec = Some (kept.Install s.kept.file location head) }))

-- list taken where each version that its head names is held; else the source is asked for the one of the least object that is missing
abbrev pub takes_or_pulls : Site → FileState → NodeId → Location → FileHead → NodeId → Option ObjectVersion → FileStep
takes_or_pulls site s from location head source None = takes_list site s from location head
takes_or_pulls site s from location head source (Some v) =
    steps_to s (sends (message site.node source (payload.Pull s.kept.file v.object v.version) ∷ []))

-- an Install comes: of the list that is stored, or of an earlier one, it is installed already
unfoldable pub install_comes : Site → FileState → NodeId → Location → FileHead → NodeId → FileStep
install_comes site s from location head source =
    if nat_le location.version (list_version s.kept.location) then steps_to s (tells_installed site s from location)
    else takes_or_pulls site s from location head source (first_missing s.kept.held head.versions)

-- a Pull comes: the body is sent to whoever asks for it, if it is held
unfoldable pub pull_comes : Site → FileState → NodeId → ℕ → Stamp → FileStep
pull_comes site s from object version =
    if has_version s.kept.held (body_of object version)
    then steps_to s (sends (message site.node from (payload.Pulled s.kept.file object version (site.body s.kept.file object version)) ∷ []))
    else nothing s

-- a Pulled comes: the body is held from now on, and the metadata server is told that the node can go on
unfoldable pub pulled_comes : Site → FileState → ℕ → Stamp → List ℕ → FileStep
pulled_comes site s object version bytes =
    steps_to s (record {
      rec = stage_record s.kept.file s.kept.held object version bytes;
      outs = message site.node MRC_NODE (payload.Wanted s.kept.file) ∷ [];
      marks = [];
    })

-- Asks.

-- The test on the list's version comes after the one on the capability. Past it the rows of one list go on as they are: what they test of
-- a stored list is then a list of this very version, and a list is stored from an ask for the first version alone.

-- the version that an ask for an older list is told: one more where the file is closed
abbrev pub told_version : FileRow → ℕ
told_version row = if is_closed row then list_version row.location + 1 else list_version row.location

-- whether an ask is for an older list than the node's, or for its list where that is closed
abbrev pub is_older : FileRow → ℕ → Bool
is_older row version =
    nat_lt version (list_version row.location) || (version == list_version row.location && is_closed row)

-- an ask for an older list is told the version; past the last version there is none to tell
abbrev pub ask_outdated : Site → FileState → OpId → FileStep
ask_outdated site s id =
    if nat_lt (told_version s.kept) (2 ^ 31) then turned_off site s id (reply.OldList (told_version s.kept)) else nothing s

abbrev pub ask_by_version : Site → FileState → OpId → Capability → Op → FileStep
ask_by_version site s id capability asked =
    if is_older s.kept capability.location.version then ask_outdated site s id
    else if nat_lt (list_version s.kept.location) capability.location.version then nothing s
    else handle_ask site s id capability asked

abbrev pub ask_if_allowed : Site → FileState → OpId → Capability → Op → Option Denial → FileStep
ask_if_allowed site s id capability asked (Some why) = handle_ask site s id capability asked
ask_if_allowed site s id capability asked None = ask_by_version site s id capability asked

abbrev pub ask_of_kind : Site → FileState → Kind → OpId → Capability → Op → FileStep
ask_of_kind site s kind.Replicated id capability asked = ask_if_allowed site s id capability asked (capability_refused site capability asked)
ask_of_kind site s kind.Striped id capability asked = ask_comes site s kind.Striped id capability asked

-- Messages.

-- a message of the rows of one list, where it is of the list that is stored and open
abbrev pub of_list_comes : Site → FileState → NodeId → ℕ → Payload → FileStep
of_list_comes site s from list content =
    if list == list_version s.kept.location && not (is_closed s.kept) then message_comes site s from content else nothing s

-- a message that concerns the file, when nothing is overdue
abbrev pub message_taken : Site → FileState → NodeId → ℕ → Payload → FileStep
message_taken site s from list (payload.Close file version) = close_comes site s from version
message_taken site s from list (payload.Install file location head source) = install_comes site s from location head source
message_taken site s from list (payload.Pull file object version) = pull_comes site s from object version
message_taken site s from list (payload.Pulled file object version bytes) = pulled_comes site s object version bytes
message_taken site s from list (payload.Ask number capability asked) =
    ask_of_kind site s capability.location.kind (record { client = from; number = number }) capability asked
message_taken site s from list content = if is_of_list content then of_list_comes site s from list content else nothing s

-- The step of a file on a message of a list that concerns it: what is overdue, and then the message. An Install that is taken sends
-- nothing of the rows of one list, so what is sent of them carries the version before the step.
unfoldable pub step_of_message : Site → FileState → NodeId → ℕ → Payload → FileStep
step_of_message site s from list content =
    with_version (list_version s.kept.location) (and_then (expired site s) (λ state. message_taken site state from list content))

-- The rows of a Wake for a file, when nothing is overdue. A closed file has no lease, so nothing comes of them there.
unfoldable pub wake_of_listed : Site → FileState → FileStep
wake_of_listed site s = with_version (list_version s.kept.location) (wake_of_file site s)
