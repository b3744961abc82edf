-- what an OSD does with an ask on a replicated file
use Rattle.std.specs.Prelude.{ℕ, Bool, true, false, ◌&&◌, ◌==◌, nat_lt, not, if◌then◌else◌, ◌+◌, ◌/◌, Option, Some, None, List, [], ◌∷◌, length}
use Rattle.xt_base.specs.MemberList.{has_node}
use Rattle.xt_base.specs.declared.ids.NodeId.{NodeId}
use Rattle.xt_base.specs.declared.ids.OpId.{OpId}
use Rattle.xt_base.specs.declared.ids.Lease.{Lease}
use Rattle.xt_messages.specs.declared.file.Location.{Location}
use Rattle.xt_messages.specs.declared.file.Kind.{Kind}
use Rattle.xt_messages.specs.declared.file.Kind.TheVariants as kind
use Rattle.xt_messages.specs.declared.file.Capability.{Capability}
use Rattle.xt_messages.specs.declared.file.Op.{Op}
use Rattle.xt_messages.specs.declared.file.Op.TheVariants as op
use Rattle.xt_messages.specs.declared.reply.Denial.{Denial}
use Rattle.xt_messages.specs.declared.reply.Denial.TheVariants as denial
use Rattle.xt_messages.specs.declared.reply.Reply.{Reply}
use Rattle.xt_messages.specs.declared.reply.Reply.TheVariants as reply
use Rattle.xt_messages.specs.declared.message.Payload.TheVariants as payload
use Rattle.xt_messages.specs.declared.record.Record.{Record}
use Rattle.xt_messages.specs.declared.record.Record.TheVariants as kept
use Rattle.xt_protocol.specs.declared.turned.Turned.{Turned}
use Rattle.xt_protocol.specs.Register.{Round}
use Rattle.xt_protocol.specs.LeaseRows.{LeaseState, Proposer, free, asking, writing, held, can_ask, round_starts}
use Rattle.xt_protocol.specs.declared.states.WaitingAsk.{WaitingAsk}
use Rattle.xt_protocol.specs.Turns.{quiet, keeps, sends, to_each, tells}
use Rattle.xt_protocol.specs.Primaries.{is_active}
use Rattle.xt_protocol.specs.Asks.{is_read, asked_already, waits, serves}
use Rattle.xt_protocol.specs.FileStates.{FileState, Site, FileStep, nothing, steps_to, and_then, serves_to, members_of, ground_of}

-- an ask gets an answer other than Ok
abbrev pub turned_off : Site → FileState → OpId → Reply → FileStep
turned_off site s id answer = steps_to s (tells site.node s.kept.file id answer)

-- Tests before the rows.

-- capability refused: not sealed; over; or only for reading
abbrev pub capability_refused : Site → Capability → Op → Option Denial
capability_refused site capability asked =
    if not (site.sealed capability) then Some denial.Tag
    else if nat_lt capability.expiry site.now then Some denial.Expired
    else if capability.mode == 1 && not (is_read asked) then Some denial.Mode
    else None

abbrev pub same_nodes : List NodeId → List NodeId → Bool
same_nodes [] [] = true
same_nodes (a ∷ as_) (b ∷ bs) = a.0 == b.0 && same_nodes as_ bs
same_nodes _ _ = false

abbrev pub is_kind : Kind → Kind → Bool
is_kind kind.Replicated kind.Replicated = true
is_kind kind.Striped kind.Striped = true
is_kind _ _ = false

-- whether two lists are equal but for their versions
abbrev pub same_list : Location → Location → Bool
same_list a b = is_kind a.kind b.kind && a.stripe == b.stripe && same_nodes a.members b.members

-- list refused: older than the stored one, another one, or without this node
abbrev pub list_against : Option Location → Location → Option Reply
list_against None location = None
list_against (Some stored) location =
    if nat_lt location.version stored.version then Some (reply.OldList stored.version)
    else if same_list stored location then None
    else Some (reply.Denied denial.List)

abbrev pub with_member : Site → Location → Option Reply → Option Reply
with_member site location (Some answer) = Some answer
with_member site location None = if has_node location.members site.node.0 then None else Some (reply.Denied denial.List)

-- range refused: it leaves the object
abbrev pub leaves_object : ℕ → Op → Bool
leaves_object stripe (op.Read object at len) = nat_lt stripe (at + len)
leaves_object stripe (op.Write object at bytes) = nat_lt stripe (at + length bytes)
leaves_object stripe (op.Truncate size) = false

abbrev pub in_range : Location → Op → Option Reply
in_range location asked = if leaves_object location.stripe asked then Some (reply.Denied denial.Range) else None

-- the list, and then the range
abbrev pub list_and_range : Location → Op → Option Reply → Option Reply
list_and_range location asked (Some answer) = Some answer
list_and_range location asked None = in_range location asked

abbrev pub capability_list_range : Site → Option Location → Capability → Op → Option Denial → Option Reply
capability_list_range site stored capability asked (Some why) = Some (reply.Denied why)
capability_list_range site stored capability asked None =
    list_and_range capability.location asked (with_member site capability.location (list_against stored capability.location))

-- Refused before any row, by the first of these that fails: the capability, the list, the range.
unfoldable pub refusal_of : Site → Option Location → Capability → Op → Option Reply
refusal_of site stored capability asked = capability_list_range site stored capability asked (capability_refused site capability asked)

-- The rows.

-- how long an ask may wait: half the lease length
abbrev pub waiting_ask : Site → OpId → ℕ → Op → WaitingAsk
waiting_ask site id epoch asked = record { id = id; epoch = epoch; op = asked; deadline = site.now + site.times.lease / 2 }

-- waits
abbrev pub ask_waits : FileState → WaitingAsk → FileStep
ask_waits s ask = nothing (record s { asks = waits s.asks ask })

-- read served, or the rows for writes; a write that meets an issued one waits
abbrev pub serve_ask : Site → FileState → WaitingAsk → FileStep
serve_ask site s ask =
    serves_to s (serves (ground_of site s) (record { primary = s.primary; asks = s.asks; turned = quiet }) ask (waits s.asks ask))

-- a Read of the round's ballot to each of these
abbrev pub reads_of : Site → FileState → List NodeId → Round → Turned
reads_of site s members r = sends (to_each site.node members (payload.Read s.kept.file r.ballot))

-- round starts: the ask waits for it; without a count left nothing comes of the ask
abbrev pub round_for : Site → FileState → Proposer → WaitingAsk → FileStep
round_for site s p ask =
    let members = members_of s.kept.location in
    let r = round_starts p site.now members in
    if can_ask p then steps_to (record s { asks = waits s.asks ask; lease = asking r }) (reads_of site s members r)
    else nothing s

-- sent elsewhere: the own register has accepted another node's lease, which isn't over
abbrev pub elsewhere : Site → Option Lease → Option Reply
elsewhere site None = None
elsewhere site (Some lease) =
    if not (lease.node.0 == site.node.0) && nat_lt site.now lease.end then Some (reply.Elsewhere lease.node lease.end) else None

abbrev pub ask_without_lease : Site → FileState → Proposer → WaitingAsk → Option Reply → FileStep
ask_without_lease site s p ask (Some answer) = turned_off site s ask.id answer
ask_without_lease site s p ask None = round_for site s p ask

-- by the lease: served while active; else it waits for the primary or the round; else it is sent elsewhere, or a round starts
abbrev pub ask_under : Site → FileState → LeaseState → WaitingAsk → FileStep
ask_under site s (held h) ask = if is_active s.primary.tenure then serve_ask site s ask else ask_waits s ask
ask_under site s (asking r) ask = ask_waits s ask
ask_under site s (writing r) ask = ask_waits s ask
ask_under site s (free p) ask = ask_without_lease site s p ask (elsewhere site s.acceptor.accepted)

-- asked already, or a new ask
abbrev pub ask_rows : Site → FileState → WaitingAsk → FileStep
ask_rows site s ask = if asked_already s.asks ask.id then nothing s else ask_under site s s.lease ask

-- list stored: the first ask's list is kept
abbrev pub view_record : FileState → Location → Option Location → Option Record
view_record s location None = Some (kept.View s.kept.file location)
view_record s location (Some stored) = None

-- an ask that is let in counts as a use
abbrev pub ask_let_in : Site → FileState → OpId → Capability → Op → Option Reply → FileStep
ask_let_in site s id capability asked (Some answer) = turned_off site s id answer
ask_let_in site s id capability asked None =
    and_then (steps_to (record s { used = site.now }) (keeps (view_record s capability.location s.kept.location)))
    (λ state. ask_rows site state (waiting_ask site id capability.epoch asked))

-- An ask on a replicated file.
unfoldable pub handle_ask : Site → FileState → OpId → Capability → Op → FileStep
handle_ask site s id capability asked = ask_let_in site s id capability asked (refusal_of site s.kept.location capability asked)
