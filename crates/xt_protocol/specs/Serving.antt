-- What a primary answers and sends without a message to it: reads, writes, and what a wake sends again.
use Rattle.std.specs.Prelude.{ℕ, ◌&&◌, ◌==◌, nat_lt, not, if◌then◌else◌, ◌+◌, Option, Some, None, List, [], ◌∷◌, filter, flat_map}
use Rattle.xt_base.specs.MemberList.{has_node}
use Rattle.xt_base.specs.declared.ids.NodeId.{NodeId}
use Rattle.xt_base.specs.declared.ids.FileId.{FileId}
use Rattle.xt_base.specs.declared.ids.Epoch.{Epoch}
use Rattle.xt_base.specs.declared.ids.OpId.{OpId}
use Rattle.xt_messages.specs.declared.file.Op.{Op}
use Rattle.xt_messages.specs.declared.file.FileHead.{FileHead}
use Rattle.xt_messages.specs.declared.file.Update.{Update}
use Rattle.xt_messages.specs.declared.reply.Reply.{Reply}
use Rattle.xt_messages.specs.declared.reply.Reply.TheVariants as reply
use Rattle.xt_messages.specs.declared.message.Payload.{Payload}
use Rattle.xt_messages.specs.declared.message.Payload.TheVariants as payload
use Rattle.xt_messages.specs.declared.event.Mark.TheVariants as mark
use Rattle.xt_base.specs.declared.TheConstants.{OBJECTS, COUNTS}
use Rattle.xt_protocol.specs.declared.turned.Turned.{Turned}
use Rattle.xt_protocol.specs.declared.states.Place.{Place}
use Rattle.xt_protocol.specs.declared.states.PeerState.{PeerState}
use Rattle.xt_protocol.specs.declared.states.PeerState.TheVariants as peer
use Rattle.xt_protocol.specs.declared.states.Peer.{Peer}
use Rattle.xt_protocol.specs.declared.states.IssuedUpdate.{IssuedUpdate}
use Rattle.xt_protocol.specs.declared.states.Progress.{Progress}
use Rattle.xt_protocol.specs.declared.states.Progress.TheVariants as progress
use Rattle.xt_protocol.specs.declared.states.Tenure.{Tenure}
use Rattle.xt_protocol.specs.declared.states.PrimaryState.{PrimaryState}
use Rattle.xt_protocol.specs.Turns.{quiet, sends, message, to_each, tells, answers}
use Rattle.xt_protocol.specs.Writes.{bytes_shown, WriteStanding, repeated, older, turned_away, fresh, standing, update_of}
use Rattle.xt_protocol.specs.Primaries.{Ground, Led, is_current, nodes_of, last_sent, if_any}
use Rattle.xt_protocol.specs.PrimaryRows.{goes_on, unmoved}

-- Reads.

-- Read served: what the committed head shows, its count and its mark; none where the primary isn't active.
abbrev pub reads_in : Ground → Progress → Op → Option Reply
reads_in g (progress.Active head issued) asked = Some (reply.Ok head.stamp.count head.mark (bytes_shown g.place.stripe g.body head asked))
reads_in g _ asked = None

abbrev pub reads_under : Ground → Option Tenure → Op → Option Reply
reads_under g None asked = None
reads_under g (Some t) asked = reads_in g t.progress asked

unfoldable pub reads : Ground → PrimaryState → Op → Option Reply
reads g p asked = reads_under g p.tenure asked

-- Writes.

-- the peers to which an update goes besides the own node
abbrev pub current_others : Place → List Peer → List NodeId
current_others place peers = nodes_of (filter (λ p. is_current p.state && not (p.node.0 == place.node.0)) peers)

-- issued: the update goes to the node itself, and then to each current peer
abbrev pub issues : Ground → ℕ → Tenure → FileHead → Option Update → Led
issues g learnt t head None = unmoved learnt t
issues g learnt t head (Some update) =
    goes_on learnt (record t { progress = progress.Active head (Some (record { update = update; acked = [] })) })
    (record {
      rec = None;
      outs = to_each g.place.node (g.place.node ∷ current_others g.place t.peers) (payload.Update g.place.file update);
      marks = mark.Issue g.place.file.number update.stamp.count update.id ∷ [];
    })

-- the stamp of the next update, where there is a count left
abbrev pub next_update_of : Ground → Tenure → FileHead → OpId → ℕ → Op → Option Update
next_update_of g t head id epoch asked =
    if nat_lt (head.stamp.count + 1) COUNTS
    then update_of g.place.stripe g.body head (record { epoch = t.epoch; count = head.stamp.count + 1 }) id epoch asked
    else None

-- a fresh write is issued, unless another one is
abbrev pub issues_unless : Ground → ℕ → Tenure → FileHead → Option IssuedUpdate → OpId → ℕ → Op → Option Led
issues_unless g learnt t head (Some issued) id epoch asked = None
issues_unless g learnt t head None id epoch asked = Some (issues g learnt t head (next_update_of g t head id epoch asked))

-- a write by how it stands to the committed head
abbrev pub write_stands : Ground → ℕ → Tenure → FileHead → Option IssuedUpdate → OpId → ℕ → Op → WriteStanding → Option Led
write_stands g learnt t head issued id epoch asked (repeated count) =
    Some (goes_on learnt t (answers g.place.node g.place.file id count head.mark []))
write_stands g learnt t head issued id epoch asked older = Some (unmoved learnt t)
write_stands g learnt t head issued id epoch asked (turned_away why) = Some (goes_on learnt t (tells g.place.node g.place.file id why))
write_stands g learnt t head issued id epoch asked fresh = issues_unless g learnt t head issued id epoch asked

abbrev pub writes_in : Ground → ℕ → Tenure → Progress → OpId → ℕ → Op → Option Led
writes_in g learnt t (progress.Active head issued) id epoch asked =
    write_stands g learnt t head issued id epoch asked (standing OBJECTS g.place.stripe head id epoch asked)
writes_in g learnt t _ id epoch asked = None

abbrev pub writes_under : Ground → ℕ → Option Tenure → OpId → ℕ → Op → Option Led
writes_under g learnt None id epoch asked = None
writes_under g learnt (Some t) id epoch asked = writes_in g learnt t t.progress id epoch asked

-- A write or truncation while the primary is active: repeated, older, refused, or issued; none where another one is issued.
unfoldable pub writes : Ground → PrimaryState → OpId → ℕ → Op → Option Led
writes g p id epoch asked = writes_under g p.learnt p.tenure id epoch asked

-- Wakes.

-- an unknown peer is asked again
abbrev pub gather_unknown : Place → Epoch → NodeId → PeerState → Option Payload
gather_unknown place epoch node peer.Unknown = Some (payload.Gather place.file epoch)
gather_unknown place epoch node _ = None

-- the update for a peer that hasn't acknowledged it
abbrev pub unacked : FileId → NodeId → Option IssuedUpdate → Option Payload
unacked file node None = None
unacked file node (Some issued) = if has_node issued.acked node.0 then None else Some (payload.Update file issued.update)

-- what a peer is sent again once a head was chosen
abbrev pub resend : Place → Epoch → Option IssuedUpdate → NodeId → PeerState → Option Payload
resend place epoch issued node peer.Unknown = Some (payload.Gather place.file epoch)
resend place epoch issued node peer.Current = unacked place.file node issued
resend place epoch issued node state = last_sent place.file epoch state

-- to each peer what this gives, in list order
abbrev pub to_peers : Place → List Peer → (NodeId → PeerState → Option Payload) → Turned
to_peers place peers content = sends (flat_map (λ p. if_any place.node p.node (content p.node p.state)) peers)

abbrev pub wakes_in : Place → Tenure → Progress → Turned
wakes_in place t progress.Gathering = to_peers place t.peers (gather_unknown place t.epoch)
wakes_in place t (progress.Fetching chosen source asked later) =
    sends (message place.node source (payload.Fetch place.file t.epoch asked.object asked.version) ∷ [])
wakes_in place t (progress.Installing chosen acked) = to_peers place t.peers (resend place t.epoch None)
wakes_in place t (progress.Active head issued) = to_peers place t.peers (resend place t.epoch issued)

abbrev pub wakes_under : Place → Option Tenure → Turned
wakes_under place None = quiet
wakes_under place (Some t) = wakes_in place t t.progress

-- Wakes: who hasn't answered is sent the same again. The primary's state stays.
unfoldable pub wakes : Place → PrimaryState → Turned
wakes place p = wakes_under place p.tenure
