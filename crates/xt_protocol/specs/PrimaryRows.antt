-- What a primary does in its turn with the messages to it: it gathers, fetches, installs, and counts acknowledgements, row by row.
use Rattle.std.specs.Prelude.{ℕ, Bool, ◌&&◌, ◌||◌, ◌==◌, nat_lt, nat_le, not, if◌then◌else◌, ◌+◌, max, Option, Some, None, List, [], ◌∷◌, map}
use Rattle.xt_base.specs.declared.ids.NodeId.{NodeId}
use Rattle.xt_base.specs.declared.ids.FileId.{FileId}
use Rattle.xt_base.specs.declared.ids.Epoch.{Epoch}
use Rattle.xt_base.specs.declared.ids.Stamp.{Stamp}
use Rattle.xt_messages.specs.declared.file.ObjectVersion.{ObjectVersion}
use Rattle.xt_messages.specs.declared.file.FileHead.{FileHead}
use Rattle.xt_messages.specs.declared.file.Update.{Update}
use Rattle.xt_messages.specs.declared.message.Payload.{Payload}
use Rattle.xt_messages.specs.declared.message.Payload.TheVariants as payload
use Rattle.xt_messages.specs.declared.event.Mark.TheVariants as mark
use Rattle.xt_messages.specs.declared.record.Record.{Record}
use Rattle.xt_messages.specs.declared.record.Record.TheVariants as kept
use Rattle.xt_base.specs.declared.TheConstants.{COUNTS}
use Rattle.xt_protocol.specs.declared.turned.Turned.{Turned}
use Rattle.xt_protocol.specs.Folds.{body_of, body_put}
use Rattle.xt_protocol.specs.declared.states.Place.{Place}
use Rattle.xt_protocol.specs.declared.states.PeerState.{PeerState}
use Rattle.xt_protocol.specs.declared.states.PeerState.TheVariants as peer
use Rattle.xt_protocol.specs.declared.states.Peer.{Peer}
use Rattle.xt_protocol.specs.declared.states.IssuedUpdate.{IssuedUpdate}
use Rattle.xt_protocol.specs.declared.states.Progress.{Progress}
use Rattle.xt_protocol.specs.declared.states.Progress.TheVariants as progress
use Rattle.xt_protocol.specs.declared.states.Tenure.{Tenure}
use Rattle.xt_protocol.specs.declared.states.PrimaryState.{PrimaryState}
use Rattle.xt_protocol.specs.Turns.{quiet, shows, sends, joined, message, to_each, answers}
use Rattle.xt_protocol.specs.Stamps.{is_epoch, is_earlier, is_below, is_version, without_version, with_held}
use Rattle.xt_protocol.specs.ReplicaRows.{stage_record}
use Rattle.xt_protocol.specs.Choice.{chosen_of, difference}
use Rattle.xt_protocol.specs.Primaries.{Ground, Led, in_tenure, is_unknown, unknown_peer, peer_in, with_peer, nodes_of, majority_among, reports_of, statuses_counted, with_node, carries, known_of_report, known_of_own, fed, last_sent, if_any, last_to_each, target_of}

-- a row leaves the primary in this tenure, and gives this
abbrev pub goes_on : ℕ → Tenure → Turned → Led
goes_on learnt t turned = record { primary = in_tenure learnt t; turned = turned }

-- nothing comes of an event
abbrev pub unmoved : ℕ → Tenure → Led
unmoved learnt t = goes_on learnt t quiet

-- A tenure begins.

-- the epoch above the promised one and all that were learnt
abbrev pub epoch_above : Place → ℕ → FileHead → Epoch
epoch_above place learnt own = record { number = 1 + max own.promised.number learnt; node = place.node }

-- Epoch drawn: the own promise is kept, and all are asked. Without a number left the primary is idle.
unfoldable pub draw_epoch : Place → ℕ → FileHead → List NodeId → Led
draw_epoch place learnt own members =
    let epoch = epoch_above place learnt own in
    if nat_lt epoch.number COUNTS then
    goes_on learnt (record { epoch = epoch; peers = map unknown_peer members; progress = progress.Gathering })
    (record { rec = Some (kept.Promise place.file epoch); outs = to_each place.node members (payload.Gather place.file epoch); marks = [] })
    else record { primary = record { learnt = learnt; tenure = None }; turned = quiet }

-- The chosen head is installed.

-- a peer that has reported is fed; the own node gets the head itself
abbrev pub feed_peer : Ground → FileHead → NodeId → PeerState → PeerState
feed_peer g target node (peer.Reported head) =
    if node.0 == g.place.node.0 then peer.Reported head else fed g.body target (known_of_report head)
feed_peer g target node state = state

abbrev pub feed_peers : Ground → FileHead → List Peer → List Peer
feed_peers g target peers = map (λ p. record { node = p.node; state = feed_peer g target p.node p.state }) peers

-- Installed: the head goes to the node itself, and each other peer that has reported is fed, in list order.
abbrev pub installs : Ground → ℕ → Tenure → FileHead → Led
installs g learnt t chosen =
    let target = target_of g.own t.epoch chosen in
    let peers = feed_peers g target t.peers in
    goes_on learnt (record { epoch = t.epoch; peers = peers; progress = progress.Installing chosen [] })
    (sends (message g.place.node g.place.node (payload.Head g.place.file t.epoch target) ∷ last_to_each g.place t.epoch peers))

-- the next of the wanted bodies is asked for, and with none left the head is installed
abbrev pub fetches : Ground → ℕ → Tenure → FileHead → NodeId → List ObjectVersion → Led
fetches g learnt t chosen source [] = installs g learnt t chosen
fetches g learnt t chosen source (v ∷ later) =
    goes_on learnt (record t { progress = progress.Fetching chosen source v later })
    (sends (message g.place.node source (payload.Fetch g.place.file t.epoch v.object v.version) ∷ []))

-- Head chosen: the own one is installed; of another one the bodies are fetched that are wanted.
abbrev pub choose_head : Ground → ℕ → Tenure → NodeId × FileHead → Led
choose_head g learnt t best =
    if best.0.0 == g.place.node.0 then installs g learnt t best.1
    else fetches g learnt t best.1 best.0 (difference (known_of_own g.held) best.1.versions)

-- among the reports; there is at least the one that was just counted
abbrev pub chooses : Ground → ℕ → Tenure → List (NodeId × FileHead) → Led
chooses g learnt t [] = unmoved learnt t
chooses g learnt t (first ∷ others) = choose_head g learnt t (chosen_of g.place.node first others)

-- Statuses.

-- status counted: at a majority a head is chosen
abbrev pub status_counted : Ground → ℕ → Tenure → Led
status_counted g learnt t =
    if nat_le (majority_among t.peers) (statuses_counted t.peers) then chooses g learnt t (reports_of t.peers) else unmoved learnt t

-- the tenure with this state of a peer
abbrev pub with_state : Tenure → NodeId → PeerState → Tenure
with_state t node state = record t { peers = with_peer t.peers node state }

-- a peer gets this state, and the message that leads to it
abbrev pub send_to_peer : Ground → ℕ → Tenure → NodeId → PeerState → Led
send_to_peer g learnt t node state =
    goes_on learnt (with_state t node state) (sends (if_any g.place.node node (last_sent g.place.file t.epoch state)))

-- a peer is fed on: these versions are known of it
abbrev pub feeds : Ground → ℕ → Tenure → NodeId → FileHead → List ObjectVersion → Led
feeds g learnt t node target known = send_to_peer g learnt t node (fed g.body target known)

-- a status of an unknown peer: counted, kept until the head is installed, or late, and then the peer is fed
abbrev pub take_status : Ground → ℕ → Tenure → Progress → NodeId → FileHead → Led
take_status g learnt t progress.Gathering from head = status_counted g learnt (with_state t from (peer.Reported head))
take_status g learnt t (progress.Fetching chosen source asked later) from head = unmoved learnt (with_state t from (peer.Reported head))
take_status g learnt t (progress.Installing chosen acked) from head =
    feeds g learnt t from (target_of g.own t.epoch chosen) (known_of_report head)
take_status g learnt t (progress.Active committed issued) from head = feeds g learnt t from g.own (known_of_report head)

-- a second status does nothing
abbrev pub hears_status : Ground → ℕ → Tenure → NodeId → PeerState → FileHead → Led
hears_status g learnt t from state head =
    if is_unknown state then take_status g learnt t t.progress from head else unmoved learnt t

-- Fetching.

-- what a body is once this record is kept
abbrev pub newer_body : List ℕ → Option (List ℕ) → List ℕ
newer_body before None = before
newer_body before (Some bytes) = bytes

abbrev pub body_put_by : FileId → ℕ → Stamp → Option Record → Option (List ℕ)
body_put_by file object version None = None
body_put_by file object version (Some rec) = body_put file object version rec

abbrev pub body_beyond : FileId → Option Record → (ℕ → Stamp → List ℕ) → ℕ → Stamp → List ℕ
body_beyond file rec body object version = newer_body (body object version) (body_put_by file object version rec)

-- a row that keeps this record first
abbrev pub after_keeping : Option Record → Led → Led
after_keeping rec led = record { primary = led.primary; turned = record led.turned { rec = rec } }

-- Body fetched: it is kept unless it is held, and the next one is asked for. The head may be fed with this very body.
abbrev pub take_body : Ground → ℕ → Tenure → FileHead → NodeId → List ObjectVersion → ℕ → Stamp → List ℕ → Led
take_body g learnt t chosen source later object version bytes =
    let rec = stage_record g.place.file g.held object version bytes in
    after_keeping rec (fetches (record g { body = body_beyond g.place.file rec g.body }) learnt t chosen source later)

-- an object counts if it is the one that was asked for last, from the source
abbrev pub hears_object : Ground → ℕ → Tenure → Progress → NodeId → ℕ → Stamp → List ℕ → Led
hears_object g learnt t (progress.Fetching chosen source asked later) from object version bytes =
    if from.0 == source.0 && is_version asked (body_of object version)
    then take_body g learnt t chosen source later object version bytes
    else unmoved learnt t
hears_object g learnt t _ from object version bytes = unmoved learnt t

-- Feeding.

-- the head to which peers are brought, and whether there is one
abbrev pub target_in : FileHead → Epoch → Progress → Option FileHead
target_in own epoch (progress.Installing chosen acked) = Some (target_of own epoch chosen)
target_in own epoch (progress.Active committed issued) = Some own
target_in own epoch _ = None

-- Body staged: it is known of the peer, which is fed on.
abbrev pub body_staged : Ground → ℕ → Tenure → Option FileHead → NodeId → PeerState → ObjectVersion → Led
body_staged g learnt t (Some target) from (peer.Feeding known object version body) v = feeds g learnt t from target (with_held known v)
body_staged g learnt t (Some target) from (peer.Heading known head) v = feeds g learnt t from target (with_held known v)
body_staged g learnt t _ from _ v = unmoved learnt t

-- Body missed: it is no longer known of the peer, which is fed on.
abbrev pub body_missed : Ground → ℕ → Tenure → Option FileHead → NodeId → PeerState → ObjectVersion → Led
body_missed g learnt t (Some target) from (peer.Heading known head) v = feeds g learnt t from target (without_version known v)
body_missed g learnt t _ from _ v = unmoved learnt t

-- Fetch missed: the source no longer has a body of the chosen head, and a new epoch is drawn.
abbrev pub hears_missing : Ground → ℕ → Tenure → Progress → NodeId → PeerState → ObjectVersion → Led
hears_missing g learnt t (progress.Fetching chosen source asked later) from state v =
    if from.0 == source.0 then draw_epoch g.place learnt g.own (nodes_of t.peers) else unmoved learnt t
hears_missing g learnt t p from state v = body_missed g learnt t (target_in g.own t.epoch p) from state v

-- Acknowledgements.

-- whether an acknowledgement makes the peer current: it isn't below the head that was sent to it, or it is the own node's
abbrev pub makes_current : Place → NodeId → PeerState → Stamp → Bool
makes_current place from (peer.Heading known head) stamp = from.0 == place.node.0 || not (is_below stamp head.stamp)
makes_current place from _ stamp = from.0 == place.node.0

-- activated: a majority has the head, the own node among it
abbrev pub activated : Ground → ℕ → Tenure → Led
activated g learnt t =
    goes_on learnt (record t { progress = progress.Active g.own None })
    (shows (mark.Active g.place.file.number g.own.stamp.count g.own.last))

-- peer acknowledged, while the head is installed
abbrev pub ack_head : Ground → ℕ → Tenure → FileHead → List NodeId → Led
ack_head g learnt t chosen acked =
    if carries g.place t.peers acked then activated g learnt t
    else unmoved learnt (record t { progress = progress.Installing chosen acked })

-- committed: a majority has the update, the own node among it; its client is answered
abbrev pub committed : Ground → ℕ → Tenure → Update → Led
committed g learnt t update =
    let file = g.place.file in
    goes_on learnt (record t { progress = progress.Active g.own None })
    (joined (shows (mark.Commit file.number update.stamp.count update.id))
    (answers g.place.node file update.id update.stamp.count update.mark []))

-- an acknowledgement of the issued update
abbrev pub ack_update : Ground → ℕ → Tenure → FileHead → Update → List NodeId → Led
ack_update g learnt t head update acked =
    if carries g.place t.peers acked then committed g learnt t update
    else unmoved learnt (record t { progress = progress.Active head (Some (record { update = update; acked = acked })) })

-- what an acknowledgement means for the issued update: it is of it, or the peer that has just become current gets it
abbrev pub acked_below : Ground → ℕ → Tenure → FileHead → NodeId → Stamp → Bool → Option IssuedUpdate → Led
acked_below g learnt t head from stamp newly None = unmoved learnt t
acked_below g learnt t head from stamp newly (Some issued) =
    if not (is_below stamp issued.update.stamp) then ack_update g learnt t head issued.update (with_node issued.acked from)
    else if newly
    then goes_on learnt t (sends (message g.place.node from (payload.Update g.place.file issued.update) ∷ []))
    else unmoved learnt t

-- Peer acknowledged.
abbrev pub hears_ack : Ground → ℕ → Tenure → Progress → NodeId → Bool → Stamp → Led
hears_ack g learnt t (progress.Installing chosen acked) from newly stamp =
    if newly then ack_head g learnt (with_state t from peer.Current) chosen (with_node acked from) else unmoved learnt t
hears_ack g learnt t (progress.Active head issued) from newly stamp =
    acked_below g learnt (if newly then with_state t from peer.Current else t) head from stamp newly issued
hears_ack g learnt t _ from newly stamp = unmoved learnt t

-- Behind and outpromised.

-- a peer of which nothing is known any more; one that is still to be fed stays reported
abbrev pub forgotten : PeerState → PeerState
forgotten (peer.Reported head) = peer.Reported head
forgotten _ = peer.Unknown

-- Peer behind: it is asked again.
abbrev pub peer_behind : Ground → ℕ → Tenure → NodeId → PeerState → Led
peer_behind g learnt t from state =
    goes_on learnt (with_state t from (forgotten state))
    (sends (message g.place.node from (payload.Gather g.place.file t.epoch) ∷ []))

-- Outpromised: the higher number is learnt, and a new epoch drawn.
abbrev pub outpromised : Ground → ℕ → Tenure → Epoch → Led
outpromised g learnt t promised =
    if is_earlier t.epoch promised
    then draw_epoch g.place (max learnt promised.number) g.own (nodes_of t.peers)
    else unmoved learnt t

-- Messages to a primary.

-- the epoch of a message to a primary
abbrev pub message_epoch : Payload → Option Epoch
message_epoch (payload.Status file epoch head) = Some epoch
message_epoch (payload.Object file epoch object version bytes) = Some epoch
message_epoch (payload.Staged file epoch object version) = Some epoch
message_epoch (payload.Missing file epoch object version) = Some epoch
message_epoch (payload.Ack file stamp) = Some stamp.epoch
message_epoch (payload.Behind file epoch stamp) = Some epoch
message_epoch (payload.Refused file epoch promised) = Some epoch
message_epoch _ = None

-- a message of the primary's epoch, from a peer in this state
abbrev pub hears_peer : Ground → ℕ → Tenure → NodeId → PeerState → Payload → Led
hears_peer g learnt t from state (payload.Status file epoch head) = hears_status g learnt t from state head
hears_peer g learnt t from state (payload.Object file epoch object version bytes) = hears_object g learnt t t.progress from object version bytes
hears_peer g learnt t from state (payload.Staged file epoch object version) =
    body_staged g learnt t (target_in g.own t.epoch t.progress) from state (body_of object version)
hears_peer g learnt t from state (payload.Missing file epoch object version) = hears_missing g learnt t t.progress from state (body_of object version)
hears_peer g learnt t from state (payload.Ack file stamp) = hears_ack g learnt t t.progress from (makes_current g.place from state stamp) stamp
hears_peer g learnt t from state (payload.Behind file epoch stamp) = peer_behind g learnt t from state
hears_peer g learnt t from state (payload.Refused file epoch promised) = outpromised g learnt t promised
hears_peer g learnt t from state _ = unmoved learnt t

-- a message counts in its own epoch alone, and only from a member
abbrev pub hears_member : Ground → ℕ → Tenure → NodeId → Option PeerState → Payload → Led
hears_member g learnt t from None content = unmoved learnt t
hears_member g learnt t from (Some state) content = hears_peer g learnt t from state content

abbrev pub hears_epoch : Ground → ℕ → Tenure → NodeId → Option Epoch → Payload → Led
hears_epoch g learnt t from None content = unmoved learnt t
hears_epoch g learnt t from (Some epoch) content =
    if is_epoch epoch t.epoch then hears_member g learnt t from (peer_in t.peers from) content else unmoved learnt t

abbrev pub hears_in : Ground → ℕ → Option Tenure → NodeId → Payload → Led
hears_in g learnt None from content = record { primary = record { learnt = learnt; tenure = None }; turned = quiet }
hears_in g learnt (Some t) from content = hears_epoch g learnt t from (message_epoch content) content

-- A message to a primary, in its turn.
unfoldable pub hears : Ground → PrimaryState → NodeId → Payload → Led
hears g p from content = hears_in g p.learnt p.tenure from content
