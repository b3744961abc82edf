-- A few nodes that step by these rows, and examples of what they do.
use Rattle.std.specs.Prelude.{ℕ, Bool, true, false, ◌&&◌, ◌==◌, not, if◌then◌else◌, ◌+◌, ◌-◌, suc, zero, Option, Some, None, List, [], ◌∷◌, ◌++◌, map, filter, slice_get, slice_set, replicate}
use Rattle.xt_base.specs.TimeSettings.{TimeSettings}
use Rattle.xt_base.specs.declared.ids.NodeId.{NodeId}
use Rattle.xt_base.specs.declared.ids.FileId.{FileId}
use Rattle.xt_base.specs.declared.ids.OpId.{OpId}
use Rattle.xt_base.specs.declared.ids.Epoch.{Epoch}
use Rattle.xt_base.specs.declared.ids.Stamp.{Stamp}
use Rattle.xt_messages.specs.declared.file.FileHead.{FileHead}
use Rattle.xt_messages.specs.declared.reply.Denial.TheVariants as denial
use Rattle.xt_messages.specs.declared.reply.Reply.TheVariants as reply
use Rattle.xt_messages.specs.declared.file.Kind.TheVariants as kind
use Rattle.xt_messages.specs.declared.file.Location.{Location}
use Rattle.xt_messages.specs.declared.file.Capability.{Capability}
use Rattle.xt_messages.specs.declared.file.Op.{Op}
use Rattle.xt_messages.specs.declared.file.Op.TheVariants as op
use Rattle.xt_messages.specs.declared.message.Payload.TheVariants as payload
use Rattle.xt_messages.specs.declared.message.Msg.{Msg}
use Rattle.xt_messages.specs.declared.event.Event.{Event}
use Rattle.xt_messages.specs.declared.event.Event.TheVariants as event
use Rattle.xt_messages.specs.declared.event.Mark.{Mark}
use Rattle.xt_messages.specs.declared.event.Mark.TheVariants as mark
use Rattle.xt_messages.specs.declared.record.Record.{Record}
use Rattle.xt_messages.specs.declared.record.Record.TheVariants as kept
use Rattle.xt_base.specs.declared.TheConstants.{NO_OBJECT}
use Rattle.xt_protocol.specs.declared.turned.Turned.{Turned}
use Rattle.xt_protocol.specs.Heads.{new_head}
use Rattle.xt_protocol.specs.Stamps.{with_held}
use Rattle.xt_protocol.specs.Folds.{body_kept, body_of, fold_of, row_in, with_row}
use Rattle.xt_protocol.specs.declared.states.Acted.{Acted}
use Rattle.xt_protocol.specs.Turns.{reply_to}
use Rattle.xt_protocol.specs.LeaseRows.{Silent}
use Rattle.xt_protocol.specs.Choice.{chosen_of, difference}
use Rattle.xt_protocol.specs.Writes.{standing}
use Rattle.xt_protocol.specs.ReplicaRows.{gathered, fetched_from, staged, headed, updated, after_record, only}
use Rattle.xt_protocol.specs.Primaries.{peer_in, with_peer, fed}
use Rattle.xt_protocol.specs.PrimaryRows.{draw_epoch, hears}
use Rattle.xt_protocol.specs.Serving.{reads, writes, wakes}
use Rattle.xt_protocol.specs.Asks.{serves_all}
use Rattle.xt_protocol.specs.Overdue.{expired}
use Rattle.xt_protocol.specs.AskRows.{refusal_of, handle_ask}
use Rattle.xt_protocol.specs.StripedRows.{handle_striped}
use Rattle.xt_protocol.specs.FileLeases.{read_comes, write_comes, answer_comes}
use Rattle.xt_protocol.specs.FileSteps.{step_of_file, wake_of_file}
use Rattle.xt_protocol.specs.OsdSteps.{OsdState, Outside, osd_from, file_at, with_file, each_file, step_of_osd}

-- an OSD, whether it runs, and the records that it keeps
pub record Kept : Type 0 where
  pub node : NodeId
  pub up : Bool
  pub osd : OsdState
  pub records : List Record

-- some OSDs with one clock, every message between two nodes with whether it is pending, and the marks so far
pub record Cluster : Type 0 where
  pub clock : ℕ
  pub nodes : List Kept
  pub sent : List (Msg × Bool)
  pub trace : List (ℕ × Mark)

-- what a body is, by these records
abbrev pub or_nothing : Option (List ℕ) → List ℕ
or_nothing None = []
or_nothing (Some bytes) = bytes

abbrev pub by_records : List Record → FileId → ℕ → Stamp → List ℕ
by_records records file object version = or_nothing (body_kept records file object version)

-- every capability is sealed
abbrev pub outside_of : List Record → Outside
outside_of records = record { sealed = λ capability. true; body = by_records records }

abbrev pub one_more : List Record → Option Record → List Record
one_more records None = records
one_more records (Some rec) = records ++ rec ∷ []

-- the messages of a node to itself, as events
abbrev pub to_itself : NodeId → List Msg → List Event
to_itself node outs = map event.Deliver (filter (λ m. m.to.0 == node.0) outs)

abbrev pub to_others : NodeId → List Msg → List (Msg × Bool)
to_others node outs = map (λ m. (m, true)) (filter (λ m. not (m.to.0 == node.0) && not (m.to.0 == 900)) outs)

abbrev pub with_kept : List Kept → Kept → List Kept
with_kept [] node = []
with_kept (n ∷ ns) node = if n.node.0 == node.node.0 then node ∷ ns else n ∷ with_kept ns node

abbrev pub kept_at : List Kept → ℕ → Option Kept
kept_at [] id = None
kept_at (n ∷ ns) id = if n.node.0 == id then Some n else kept_at ns id

-- a node that runs
abbrev pub running_at : List Kept → ℕ → Option Kept
running_at [] id = None
running_at (n ∷ ns) id = if n.node.0 == id && n.up then Some n else running_at ns id

-- a cluster after a step of a node
abbrev pub after_step : Cluster → Kept → OsdState → Turned → Cluster
after_step c n osd turned =
    record c {
      nodes = with_kept c.nodes (record n { osd = osd; records = one_more n.records turned.rec });
      sent = c.sent ++ to_others n.node turned.outs;
      trace = c.trace ++ map (λ m. (n.node.0, m)) turned.marks;
    }

-- A node handles these events and then its own messages, first in first out, as many as this at most.
unfoldable pub handles : ℕ → Cluster → ℕ → List Event → Cluster
unfolding step_of_osd step_of_file wake_of_file expired handle_ask refusal_of read_comes write_comes answer_comes serves_all draw_epoch hears reads writes wakes peer_in with_peer fed chosen_of difference gathered fetched_from staged headed updated standing file_at with_file each_file body_kept fold_of row_in with_row with_held
handles zero c id events = c
handles (suc more) c id [] = c
handles (suc more) c id (e ∷ es) =
    elim (running_at c.nodes id) [
      | None ↦ c
      | Some n ↦
          let step = step_of_osd (outside_of n.records) n.osd c.clock e in
          handles more (after_step c n step.osd step.turned) id (es ++ to_itself n.node step.turned.outs)
    ]

-- What is done to a cluster.
pub data Deed : Type 0 where
  ticks : ℕ → Deed
  -- a client asks a node
  asks : ℕ → ℕ → ℕ → Op → Deed
  delivers : ℕ → Deed
  drops : ℕ → Deed
  wakes_up : ℕ → Deed
  -- the pending message of least number is delivered, so many times
  settles : ℕ → Deed
  -- a node stops between two steps
  stops : ℕ → Deed
  -- a node starts from its records
  starts : ℕ → Deed

abbrev pub file_1 : FileId
file_1 = record { volume = replicate 16 0; number = 1 }

abbrev pub times : TimeSettings
times = record { lease = 1000; drift = 100 }

abbrev pub node : ℕ → NodeId
node id = record { 0 = id }

abbrev pub place_on : List ℕ → Location
place_on ids = record { version = 1; kind = kind.Replicated; stripe = 131072; members = map node ids }

abbrev pub capability_on : List ℕ → ℕ → Capability
capability_on ids epoch =
    record { file = file_1; mode = 2; expiry = 4611686018427387904; epoch = epoch; location = place_on ids; tag = replicate 32 0 }

abbrev pub started_at : ℕ → ℕ → ℕ → Silent
started_at id boot clock = record { node = node id; boot = record { 0 = boot }; times = times; start = clock }

abbrev pub done_with : List (Msg × Bool) → ℕ → List (Msg × Bool)
done_with sent number = elim (slice_get sent (number - 1)) [ None ↦ sent | Some m ↦ slice_set sent (number - 1) (m.0, false) ]

abbrev pub delivered : Cluster → ℕ → Cluster
delivered c number =
    elim (slice_get c.sent (number - 1)) [
      | None ↦ c
      | Some m ↦ handles 100 (record c { sent = done_with c.sent number }) m.0.to.0 (event.Deliver m.0 ∷ [])
    ]

abbrev pub least_pending : ℕ → List (Msg × Bool) → Option ℕ
least_pending number [] = None
least_pending number (m ∷ ms) = if m.1 then Some number else least_pending (number + 1) ms

unfoldable pub settled : ℕ → Cluster → Cluster
unfolding handles
settled zero c = c
settled (suc more) c = elim (least_pending 1 c.sent) [ None ↦ c | Some number ↦ settled more (delivered c number) ]

-- the members of the one file
abbrev pub members : Cluster → List ℕ
members c = map (λ n. n.node.0) c.nodes

-- a client's ask for the one file is sent; a truncation is asked with its epoch
abbrev pub send_ask : Cluster → ℕ → ℕ → ℕ → ℕ → Op → Cluster
send_ask c client target number epoch asked =
    record c {
      sent = c.sent ++ (record { from = node client; to = node target; list = 1; payload = payload.Ask number (capability_on (members c) epoch) asked }, true) ∷ [];
    }

abbrev pub after_deed : Cluster → Deed → Cluster
unfolding settled handles
after_deed c (ticks count) = record c { clock = c.clock + count }
after_deed c (asks client target number asked) = send_ask c client target number 0 asked
after_deed c (delivers number) = delivered c number
after_deed c (drops number) = record c { sent = done_with c.sent number }
after_deed c (wakes_up id) = handles 100 c id (event.Wake ∷ [])
after_deed c (settles count) = settled count c
after_deed c (stops id) =
    elim (kept_at c.nodes id) [ None ↦ c | Some n ↦ record c { nodes = with_kept c.nodes (record n { up = false }) } ]
after_deed c (starts id) =
    elim (kept_at c.nodes id) [
      | None ↦ c
      | Some n ↦
          record c {
            nodes = with_kept c.nodes (record n { up = true; osd = osd_from (started_at id (n.osd.started.boot.0 + 1) c.clock) (fold_of n.records).files });
          }
    ]

unfoldable pub after_deeds : Cluster → List Deed → Cluster
unfolding settled handles fold_of row_in with_row
after_deeds c [] = c
after_deeds c (d ∷ ds) = after_deeds (after_deed c d) ds

-- nodes that have just started with nothing
abbrev pub fresh_node : ℕ → ℕ → Kept
fresh_node clock id = record { node = node id; up = true; osd = osd_from (started_at id 1 clock) []; records = [] }

abbrev pub cluster_of : ℕ → List ℕ → Cluster
cluster_of clock ids = record { clock = clock; nodes = map (fresh_node clock) ids; sent = []; trace = [] }

-- what the nodes of a new cluster mark
abbrev pub marks_of : ℕ → List ℕ → List Deed → List (ℕ × Mark)
unfolding after_deeds
marks_of clock ids deeds = (after_deeds (cluster_of clock ids) deeds).trace

-- what a client is sent
abbrev pub told_to : ℕ → ℕ → List ℕ → List Deed → List Msg
unfolding after_deeds
told_to client clock ids deeds = map (λ m. m.0) (filter (λ m. m.0.to.0 == client) (after_deeds (cluster_of clock ids) deeds).sent)

-- Examples.

abbrev pub id_of : ℕ → ℕ → OpId
id_of client number = record { client = node client; number = number }

abbrev pub is_held : ℕ → ℕ → ℕ × Mark
is_held id end = (id, mark.Held 1 end)

abbrev pub is_active : ℕ → ℕ → ℕ → ℕ → ℕ × Mark
is_active id count client number = (id, mark.Active 1 count (id_of client number))

abbrev pub is_issued : ℕ → ℕ → ℕ → ℕ → ℕ × Mark
is_issued id count client number = (id, mark.Issue 1 count (id_of client number))

abbrev pub is_committed : ℕ → ℕ → ℕ → ℕ → ℕ × Mark
is_committed id count client number = (id, mark.Commit 1 count (id_of client number))

abbrev pub is_answered : ℕ → ℕ → ℕ → ℕ → List ℕ → ℕ × Mark
is_answered id client number count bytes = (id, mark.Answer 1 (id_of client number) count bytes)

abbrev pub abc : List ℕ
abc = 97 ∷ 98 ∷ 99 ∷ []

abbrev pub trio : List ℕ
trio = 1 ∷ 2 ∷ 3 ∷ []

abbrev pub reads_byte : ℕ → ℕ → ℕ → Deed
reads_byte client target number = asks client target number (op.Read 0 0 1)

abbrev pub writes_at : ℕ → ℕ → ℕ → ℕ → List ℕ → Deed
writes_at client target number at bytes = asks client target number (op.Write 0 at bytes)

-- One replica: a write takes the lease, gathers, becomes active, is issued and committed in one delivery; a read shows it.
abbrev pub alone : List Deed
alone =
    ticks 1100 ∷ writes_at 10 1 1 0 abc ∷ delivers 1 ∷ delivers 2
    ∷ asks 10 1 2 (op.Read 0 0 3) ∷ delivers 3 ∷ delivers 4
    ∷ asks 10 1 3 (op.Read 0 2 5) ∷ settles 10 ∷ asks 10 1 4 (op.Read 0 3 1) ∷ settles 10 ∷ []

abbrev pub alone_marks : List (ℕ × Mark)
alone_marks =
    is_held 1 2100 ∷ is_active 1 0 0 0 ∷ is_issued 1 1 10 1 ∷ is_committed 1 1 10 1 ∷ is_answered 1 10 1 1 []
    ∷ is_answered 1 10 2 1 abc ∷ is_answered 1 10 3 1 (99 ∷ []) ∷ is_answered 1 10 4 1 [] ∷ []

-- A replica that lacked updates is brought up to date, and then carries a write with the primary.
abbrev pub catching_up : List Deed
catching_up =
    stops 3 ∷ ticks 1100 ∷ writes_at 10 1 1 0 (97 ∷ []) ∷ settles 100 ∷ starts 3 ∷ ticks 500 ∷ wakes_up 1 ∷ settles 100
    ∷ reads_byte 10 1 2 ∷ settles 100 ∷ ticks 500 ∷ wakes_up 1 ∷ settles 100 ∷ ticks 100 ∷ wakes_up 1 ∷ settles 100
    ∷ stops 2 ∷ writes_at 10 1 3 1 (98 ∷ []) ∷ settles 100 ∷ []

abbrev pub catching_up_marks : List (ℕ × Mark)
catching_up_marks =
    is_held 1 2100 ∷ is_active 1 0 0 0 ∷ is_issued 1 1 10 1 ∷ is_committed 1 1 10 1 ∷ is_answered 1 10 1 1 []
    ∷ is_held 1 2600 ∷ is_answered 1 10 2 1 (97 ∷ []) ∷ is_held 1 3100
    ∷ is_issued 1 2 10 3 ∷ is_committed 1 2 10 3 ∷ is_answered 1 10 3 2 [] ∷ []

-- The edge of a turn: one millisecond before the drift before the end a read is answered, and then no longer.
abbrev pub turns_edge : List Deed
turns_edge =
    ticks 1100 ∷ reads_byte 10 1 1 ∷ settles 100 ∷ ticks 899 ∷ reads_byte 10 1 2 ∷ settles 100 ∷ ticks 1 ∷ reads_byte 10 1 3 ∷ delivers 21 ∷ []

abbrev pub turns_edge_marks : List (ℕ × Mark)
turns_edge_marks = is_held 1 6000 ∷ is_active 1 0 0 0 ∷ is_answered 1 10 1 0 [] ∷ is_answered 1 10 2 0 [] ∷ []

-- A write that comes again is answered again, also by a later boot.
abbrev pub repeats : List Deed
repeats =
    ticks 1100 ∷ writes_at 10 1 1 0 abc ∷ settles 100 ∷ delivers 1 ∷ stops 1 ∷ starts 1 ∷ ticks 1100 ∷ delivers 1 ∷ settles 100 ∷ []

abbrev pub repeats_marks : List (ℕ × Mark)
repeats_marks =
    is_held 1 2100 ∷ is_active 1 0 0 0 ∷ is_issued 1 1 10 1 ∷ is_committed 1 1 10 1 ∷ is_answered 1 10 1 1 [] ∷ is_answered 1 10 1 1 []
    ∷ is_held 1 3200 ∷ is_active 1 1 10 1 ∷ is_answered 1 10 1 1 [] ∷ []

-- A boot forgets its promise, and no round of two reaches a majority.
abbrev pub forgotten_promises : List Deed
forgotten_promises =
    ticks 1100 ∷ reads_byte 10 1 1 ∷ reads_byte 11 2 1
    ∷ delivers 1 ∷ delivers 2 ∷ delivers 5 ∷ delivers 6 ∷ delivers 11 ∷ delivers 12 ∷ delivers 8 ∷ delivers 9 ∷ delivers 15 ∷ delivers 16
    ∷ stops 3 ∷ starts 3
    ∷ delivers 14 ∷ delivers 18 ∷ delivers 13 ∷ delivers 17 ∷ delivers 19 ∷ delivers 20 ∷ delivers 10 ∷ delivers 22 ∷ delivers 21
    ∷ ticks 500 ∷ wakes_up 2 ∷ []

-- A write that reached the primary alone vanishes with it, and its late copies do nothing.
abbrev pub vanished : List Deed
vanished =
    ticks 1100 ∷ writes_at 10 1 1 0 (97 ∷ []) ∷ settles 100 ∷ writes_at 10 1 2 0 (98 ∷ []) ∷ delivers 23 ∷ stops 1
    ∷ drops 24 ∷ drops 25 ∷ ticks 1000 ∷ reads_byte 11 2 1 ∷ settles 100 ∷ delivers 24 ∷ delivers 25 ∷ reads_byte 11 2 2 ∷ settles 100 ∷ []

abbrev pub vanished_marks : List (ℕ × Mark)
vanished_marks =
    is_held 1 2100 ∷ is_active 1 0 0 0 ∷ is_issued 1 1 10 1 ∷ is_committed 1 1 10 1 ∷ is_answered 1 10 1 1 [] ∷ is_issued 1 2 10 2
    ∷ is_held 2 3100 ∷ is_active 2 1 10 1 ∷ is_answered 2 11 1 1 (97 ∷ []) ∷ is_answered 2 11 2 1 (97 ∷ []) ∷ []

-- A write that another replica has is found by the next primary.
abbrev pub found : List Deed
found =
    ticks 1100 ∷ writes_at 10 1 1 0 (97 ∷ []) ∷ settles 100 ∷ writes_at 10 1 2 0 (98 ∷ []) ∷ delivers 23 ∷ stops 1
    ∷ drops 24 ∷ delivers 25 ∷ ticks 1000 ∷ reads_byte 11 2 1 ∷ settles 100 ∷ []

abbrev pub found_marks : List (ℕ × Mark)
found_marks =
    is_held 1 2100 ∷ is_active 1 0 0 0 ∷ is_issued 1 1 10 1 ∷ is_committed 1 1 10 1 ∷ is_answered 1 10 1 1 [] ∷ is_issued 1 2 10 2
    ∷ is_held 2 3100 ∷ is_active 2 2 10 2 ∷ is_answered 2 11 1 2 (98 ∷ []) ∷ []

-- A boot is silent for the lease length and the drift, whatever the boot before it was.
abbrev pub silence : List Deed
silence =
    stops 1 ∷ ticks 50 ∷ starts 1 ∷ ticks 1099 ∷ reads_byte 10 1 1 ∷ delivers 1 ∷ ticks 1 ∷ delivers 1 ∷ []

abbrev pub silence_marks : List (ℕ × Mark)
silence_marks = is_held 1 5100 ∷ is_active 1 0 0 0 ∷ is_answered 1 10 1 0 [] ∷ []

-- Outrun: node 2 has promised its own round, and refuses node 1's, whose client gets the answer that there is no lease.
abbrev pub outrun : List Deed
outrun = ticks 1100 ∷ reads_byte 10 1 1 ∷ reads_byte 11 2 1 ∷ delivers 1 ∷ delivers 2 ∷ delivers 3 ∷ delivers 7 ∷ []

abbrev pub outrun_reply : List Msg
outrun_reply = reply_to (node 1) file_1 (id_of 10 1) (reply.NoLease 0) ∷ []

-- A deadline: the lease is held, no other node sends its status, and half a lease length after the ask came its client is
-- answered.
abbrev pub deadline : List Deed
deadline =
    ticks 1100 ∷ reads_byte 10 1 1 ∷ delivers 1 ∷ delivers 2 ∷ delivers 4 ∷ delivers 5 ∷ delivers 6 ∷ ticks 500 ∷ wakes_up 1 ∷ []

abbrev pub deadline_reply : List Msg
deadline_reply = reply_to (node 1) file_1 (id_of 10 1) (reply.NoMajority 1 2) ∷ []

-- Two writes wait after one that is issued when the primary becomes active. They stay as they are, also the one that is too far,
-- and are looked at once the issued one is committed.
abbrev pub behind_issued : List Deed
behind_issued =
    ticks 1100 ∷ writes_at 10 1 1 0 abc ∷ asks 11 1 1 (op.Write 16384 0 abc) ∷ writes_at 12 1 1 0 abc ∷ delivers 1 ∷ delivers 2 ∷ delivers 3
    ∷ delivers 4 ∷ delivers 6 ∷ delivers 7 ∷ delivers 8 ∷ delivers 9 ∷ delivers 11 ∷ delivers 12 ∷ delivers 13 ∷ []

abbrev pub behind_issued_marks : List (ℕ × Mark)
behind_issued_marks = is_held 1 2100 ∷ is_active 1 0 0 0 ∷ is_issued 1 1 10 1 ∷ []

abbrev pub committed_then : List Deed
committed_then = behind_issued ++ delivers 14 ∷ delivers 15 ∷ []

abbrev pub too_far_reply : List Msg
too_far_reply = reply_to (node 1) file_1 (id_of 11 1) (reply.TooFar 16384) ∷ []

-- A replica with two versions, which holds an older body besides.
abbrev pub epoch_of : ℕ → ℕ → Epoch
epoch_of number id = record { number = number; node = node id }

abbrev pub stamp_of : ℕ → ℕ → ℕ → Stamp
stamp_of number id count = record { epoch = epoch_of number id; count = count }

abbrev pub ahead : FileHead
ahead =
    record new_head {
      promised = epoch_of 2 2;
      stamp = stamp_of 1 1 2;
      versions = body_of 0 (stamp_of 1 1 2) ∷ body_of 1 (stamp_of 1 1 1) ∷ [];
    }

-- the head of an epoch that doesn't have its last write
abbrev pub shorter : FileHead
shorter = record new_head { promised = epoch_of 2 2; stamp = stamp_of 2 2 1; versions = body_of 0 (stamp_of 1 1 1) ∷ [] }

-- it takes the shorter head where it holds that body, and else reports which one it lacks
abbrev pub taken : Acted
taken = after_record (kept.Head file_1 shorter) (payload.Ack file_1 (stamp_of 2 2 1))

abbrev pub missed : Acted
missed = only (payload.Missing file_1 (epoch_of 2 2) 0 (stamp_of 1 1 1))

-- A promise that is kept stands against an earlier epoch; one that was lost doesn't.
abbrev pub promised_head : FileHead
promised_head = record new_head { promised = epoch_of 2 3 }

abbrev pub promises : Acted
promises = after_record (kept.Promise file_1 (epoch_of 2 3)) (payload.Status file_1 (epoch_of 2 3) promised_head)

abbrev pub refuses : Acted
refuses = only (payload.Refused file_1 (epoch_of 1 1) (epoch_of 2 3))

-- A striped file on three nodes, of which node 2 owns object 1.
abbrev pub striped_capability : Capability
striped_capability =
    record (capability_on trio 0) { location = record { version = 1; kind = kind.Striped; stripe = 131072; members = map node trio } }

abbrev pub striped_ask : ℕ → List Record → ℕ → Op → Acted
striped_ask id records number asked =
    handle_striped
    (record { node = node id; times = times; now = 0; sealed = λ capability. true; body = by_records records })
    (row_in (fold_of records).files file_1) (id_of 10 number) striped_capability asked

-- what node 2 keeps of a write of three bytes to that object
abbrev pub striped_update : Record
striped_update =
    kept.Update file_1
    (record {
      stamp = stamp_of 0 0 1;
      id = id_of 10 1;
      mark = record { epoch = 0; size = 131075 };
      drop_from = NO_OBJECT;
      object = 1;
      body = abc;
    })

abbrev pub striped_write : Acted
striped_write =
    after_record striped_update (payload.Reply 1 file_1 (reply.Ok 1 (record { epoch = 0; size = 131075 }) []))

-- a read shows what the write left, with zeros after it; another node doesn't own the object
abbrev pub striped_read : Acted
striped_read =
    only (payload.Reply 2 file_1 (reply.Ok 1 (record { epoch = 0; size = 131075 }) (98 ∷ 99 ∷ 0 ∷ [])))

abbrev pub striped_elsewhere : Acted
striped_elsewhere = only (payload.Reply 2 file_1 (reply.Denied denial.Range))
