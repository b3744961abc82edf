-- a primary: its peers, what it counts, and what it sends to a peer that it brings up to date
use Rattle.std.specs.Prelude.{ℕ, Bool, true, false, ◌&&◌, ◌==◌, nat_le, not, if◌then◌else◌, ◌+◌, ◌/◌, Option, Some, None, List, [], ◌∷◌, ◌++◌, length, map, find, filter_map, flat_map, count_by}
use Rattle.xt_base.specs.MemberList.{has_node}
use Rattle.xt_base.specs.declared.ids.NodeId.{NodeId}
use Rattle.xt_base.specs.declared.ids.FileId.{FileId}
use Rattle.xt_base.specs.declared.ids.Epoch.{Epoch}
use Rattle.xt_base.specs.declared.ids.Stamp.{Stamp}
use Rattle.xt_messages.specs.declared.file.ObjectVersion.{ObjectVersion}
use Rattle.xt_messages.specs.declared.file.FileHead.{FileHead}
use Rattle.xt_messages.specs.declared.message.Payload.{Payload}
use Rattle.xt_messages.specs.declared.message.Payload.TheVariants as payload
use Rattle.xt_messages.specs.declared.message.Msg.{Msg}
use Rattle.xt_protocol.specs.declared.turned.Turned.{Turned}
use Rattle.xt_protocol.specs.declared.states.Place.{Place}
use Rattle.xt_protocol.specs.declared.states.PeerState.{PeerState}
use Rattle.xt_protocol.specs.declared.states.PeerState.TheVariants as peer
use Rattle.xt_protocol.specs.declared.states.Peer.{Peer}
use Rattle.xt_protocol.specs.declared.states.IssuedUpdate.{IssuedUpdate}
use Rattle.xt_protocol.specs.declared.states.Progress.{Progress}
use Rattle.xt_protocol.specs.declared.states.Progress.TheVariants as progress
use Rattle.xt_protocol.specs.declared.states.Tenure.{Tenure}
use Rattle.xt_protocol.specs.declared.states.PrimaryState.{PrimaryState}
use Rattle.xt_protocol.specs.Turns.{message}
use Rattle.xt_protocol.specs.Stamps.{is_epoch, has_version, held_from}

-- What a primary may look at besides its tenure: where it is, the head and the held versions of its own replica, and what a
-- body is.
pub record Ground : Type 0 where
  pub place : Place
  pub own : FileHead
  pub held : List ObjectVersion
  pub body : ℕ → Stamp → List ℕ

-- a primary after a row, and what the row gives
pub record Led : Type 0 where
  pub primary : PrimaryState
  pub turned : Turned

-- at first no epoch was learnt, and the primary is idle
abbrev pub new_primary : PrimaryState
new_primary = record { learnt = 0; tenure = None }

-- the primary without its tenure: what it learnt goes on
abbrev pub idle : PrimaryState → PrimaryState
idle p = record p { tenure = None }

-- a primary in a tenure
abbrev pub in_tenure : ℕ → Tenure → PrimaryState
in_tenure learnt t = record { learnt = learnt; tenure = Some t }

-- Peers.

abbrev pub is_unknown : PeerState → Bool
is_unknown peer.Unknown = true
is_unknown _ = false

abbrev pub is_reported : PeerState → Bool
is_reported (peer.Reported head) = true
is_reported _ = false

abbrev pub is_current : PeerState → Bool
is_current peer.Current = true
is_current _ = false

-- a peer of which nothing is known
abbrev pub unknown_peer : NodeId → Peer
unknown_peer node = record { node = node; state = peer.Unknown }

-- how far this node is, where it is a peer
unfoldable pub peer_in : List Peer → NodeId → Option PeerState
peer_in [] node = None
peer_in (p ∷ ps) node = if p.node.0 == node.0 then Some p.state else peer_in ps node

-- the peers with this node so far
unfoldable pub with_peer : List Peer → NodeId → PeerState → List Peer
with_peer [] node state = []
with_peer (p ∷ ps) node state =
    if p.node.0 == node.0 then record { node = p.node; state = state } ∷ ps else p ∷ with_peer ps node state

abbrev pub nodes_of : List Peer → List NodeId
nodes_of peers = map (λ p. p.node) peers

-- more than half of all members
abbrev pub majority_among : List Peer → ℕ
majority_among peers = length peers / 2 + 1

-- the head that a peer has reported
abbrev pub report_of : NodeId → PeerState → Option (NodeId × FileHead)
report_of node (peer.Reported head) = Some (node, head)
report_of node _ = None

-- the reports that are counted, in list order
abbrev pub reports_of : List Peer → List (NodeId × FileHead)
reports_of peers = filter_map (λ p. report_of p.node p.state) peers

-- how many statuses are counted
abbrev pub statuses_counted : List Peer → ℕ
statuses_counted peers = count_by (λ p. is_reported p.state) peers

-- these nodes and this one, each once
abbrev pub with_node : List NodeId → NodeId → List NodeId
with_node nodes node = if has_node nodes node.0 then nodes else nodes ++ node ∷ []

-- whether these are a majority of the members, the own node among them
abbrev pub carries : Place → List Peer → List NodeId → Bool
carries place peers acked = nat_le (majority_among peers) (length acked) && has_node acked place.node.0

-- Feeding.

-- What is known of a peer that has reported this head: the versions that it names. What is known of a peer rises, each once.
abbrev pub known_of_report : FileHead → List ObjectVersion
known_of_report head = held_from head.versions

-- what is known of the primary's own bodies when it begins to fetch: those that it holds
abbrev pub known_of_own : List ObjectVersion → List ObjectVersion
known_of_own held = held

-- a peer's next state: the body of the first version that isn't known goes to it, or with none left the head
abbrev pub fed_next : (ℕ → Stamp → List ℕ) → FileHead → List ObjectVersion → Option ObjectVersion → PeerState
fed_next body target known (Some v) = peer.Feeding known v.object v.version (body v.object v.version)
fed_next body target known None = peer.Heading known target

-- Fed: a peer of which these versions are known, on its way to this head.
unfoldable pub fed : (ℕ → Stamp → List ℕ) → FileHead → List ObjectVersion → PeerState
fed body target known = fed_next body target known (find (λ v. not (has_version known v)) target.versions)

-- what was sent last to a peer that is brought up to date
abbrev pub last_sent : FileId → Epoch → PeerState → Option Payload
last_sent file epoch (peer.Feeding known object version body) = Some (payload.Stage file epoch object version body)
last_sent file epoch (peer.Heading known head) = Some (payload.Head file epoch head)
last_sent file epoch _ = None

-- a message to a peer, where there is one
abbrev pub if_any : NodeId → NodeId → Option Payload → List Msg
if_any from to None = []
if_any from to (Some content) = message from to content ∷ []

-- to each peer that is brought up to date what was sent to it last, in list order
abbrev pub last_to_each : Place → Epoch → List Peer → List Msg
last_to_each place epoch peers = flat_map (λ p. if_any place.node p.node (last_sent place.file epoch p.state)) peers

-- The target: the own head once it is of the epoch, and before that the chosen one under the epoch.
abbrev pub target_of : FileHead → Epoch → FileHead → FileHead
target_of own epoch chosen =
    if is_epoch own.stamp.epoch epoch then own
    else record chosen { promised = epoch; stamp = record { epoch = epoch; count = chosen.stamp.count } }

-- What is asked of a primary.

-- the update that is issued, if one is
abbrev pub issued_in : Progress → Option IssuedUpdate
issued_in (progress.Active committed issued) = issued
issued_in _ = None

abbrev pub issued_by : Option Tenure → Option IssuedUpdate
issued_by None = None
issued_by (Some t) = issued_in t.progress

-- whether a primary is active, and has issued nothing
abbrev pub is_ready_in : Progress → Bool
is_ready_in (progress.Active committed None) = true
is_ready_in _ = false

abbrev pub is_ready : Option Tenure → Bool
is_ready None = false
is_ready (Some t) = is_ready_in t.progress

abbrev pub is_active_in : Progress → Bool
is_active_in (progress.Active committed issued) = true
is_active_in _ = false

abbrev pub is_active : Option Tenure → Bool
is_active None = false
is_active (Some t) = is_active_in t.progress

-- how many have answered what the primary waits for: statuses while it gathers, acknowledgements of the head or of the issued
-- update later
abbrev pub acknowledgements : Option IssuedUpdate → ℕ
acknowledgements None = 0
acknowledgements (Some issued) = length issued.acked

abbrev pub have_in : List Peer → Progress → ℕ
have_in peers progress.Gathering = statuses_counted peers
have_in peers (progress.Fetching chosen source asked later) = 0
have_in peers (progress.Installing chosen acked) = length acked
have_in peers (progress.Active committed issued) = acknowledgements issued

-- the head that this state reports
abbrev pub reported : Option PeerState → Option FileHead
reported (Some (peer.Reported head)) = Some head
reported _ = None
