-- how many messages of a file to its own node may still follow those that aren't handled
use Rattle.std.specs.Prelude.{ℕ, Bool, true, false, ◌&&◌, ◌==◌, not, if◌then◌else◌, ◌+◌, ◌*◌, Option, Some, None, is_some, List, [], ◌∷◌, length, count_by}
use Rattle.xt_base.specs.declared.ids.NodeId.{NodeId}
use Rattle.xt_base.specs.declared.ids.Stamp.{Stamp}
use Rattle.xt_messages.specs.declared.file.ObjectVersion.{ObjectVersion}
use Rattle.xt_messages.specs.declared.file.FileHead.{FileHead}
use Rattle.xt_messages.specs.declared.message.Payload.{Payload}
use Rattle.xt_messages.specs.declared.message.Payload.TheVariants as payload
use Rattle.xt_messages.specs.declared.record.FileRow.{FileRow}
use Rattle.xt_protocol.specs.Folds.{body_of}
use Rattle.xt_protocol.specs.LeaseRows.{LeaseState}
use Rattle.xt_protocol.specs.LeaseRows as lease
use Rattle.xt_protocol.specs.Stamps.{is_earlier, is_below, has_version}
use Rattle.lease_runs.specs.LeaseWorld.{lease_file}
use Rattle.xt_protocol.specs.declared.states.Asks.{Asks}
use Rattle.xt_protocol.specs.declared.states.IssuedUpdate.{IssuedUpdate}
use Rattle.xt_protocol.specs.declared.states.PeerState.{PeerState}
use Rattle.xt_protocol.specs.declared.states.PeerState.TheVariants as peer
use Rattle.xt_protocol.specs.declared.states.Tenure.{Tenure}
use Rattle.xt_protocol.specs.Primaries.{issued_in, peer_in}
use Rattle.xt_protocol.specs.PrimaryRows.{target_in}

-- ---- what a message to the primary's own node meets

-- what is held there; the head to which peers are brought, how far the own node is as a peer, and the update that is issued
pub record Stand : Type 0 where
  pub held : List ObjectVersion
  pub target : Option FileHead
  pub state : Option PeerState
  pub issued : Option IssuedUpdate

abbrev pub stand_of : NodeId → FileRow → Option Tenure → Stand
stand_of n row None = record { held = row.held; target = None; state = None; issued = None }
stand_of n row (Some t) =
    record { held = row.held; target = target_in row.head t.epoch t.progress; state = peer_in t.peers n; issued = issued_in t.progress }

-- ---- bodies

-- a version that isn't held, or isn't known of the own node yet
abbrev pub is_lacked : List ObjectVersion → List ObjectVersion → ObjectVersion → Bool
is_lacked held known v = not (has_version held v && has_version known v)

-- four messages for each of the target's versions that is lacked: the head that is refused for it, and the answer; the body, and
-- the answer
abbrev pub bodies_to : List ObjectVersion → List ObjectVersion → FileHead → ℕ
bodies_to held known target = 4 * count_by (is_lacked held known) target.versions

-- a primary feeds its own node only where it has chosen a head without the own node's status
abbrev pub bodies_left : List ObjectVersion → Option FileHead → Option PeerState → ℕ
bodies_left held (Some target) (Some peer.Unknown) = bodies_to held [] target
bodies_left held (Some target) (Some (peer.Feeding known object version body)) = bodies_to held known target
bodies_left held (Some target) (Some (peer.Heading known head)) = bodies_to held known target
bodies_left held _ _ = 0

-- whether a body is one that the target names and that isn't known of the own node yet
abbrev pub is_wanted : Option FileHead → Option PeerState → ObjectVersion → Bool
is_wanted (Some target) (Some (peer.Feeding known object version body)) v = has_version target.versions v && not (has_version known v)
is_wanted (Some target) (Some (peer.Heading known head)) v = has_version target.versions v && not (has_version known v)
is_wanted _ _ v = true

-- whether the target names all of these
abbrev pub are_named : Option FileHead → List ObjectVersion → Bool
are_named None versions = true
are_named (Some target) versions = count_by (λ v. not (has_version target.versions v)) versions == 0

-- four messages more for what is out of date
abbrev pub unless : Bool → ℕ
unless fits = if fits then 0 else 4

-- ---- one message

-- whether an acknowledgement of this stamp counts for the issued update
abbrev pub settles : Option IssuedUpdate → Stamp → Bool
settles None stamp = false
settles (Some issued) stamp = not (is_below stamp issued.update.stamp)

-- how many messages can follow from one between a primary and its own node, that one included
abbrev pub rank : Stand → Payload → ℕ
rank a (payload.Gather file epoch) = 6 + bodies_left a.held a.target a.state
rank a (payload.Status file epoch head) = 5 + bodies_left a.held a.target a.state
rank a (payload.Head file epoch head) = 4 + bodies_left a.held a.target a.state + unless (are_named a.target head.versions)
rank a (payload.Missing file epoch object version) =
    3 + bodies_left a.held a.target a.state + unless (are_named a.target (body_of object version ∷ []))
rank a (payload.Stage file epoch object version bytes) =
    2 + bodies_left a.held a.target a.state + unless (is_wanted a.target a.state (body_of object version))
rank a (payload.Staged file epoch object version) =
    1 + bodies_left a.held a.target a.state + unless (is_wanted a.target a.state (body_of object version))
rank a (payload.Update file update) = if settles a.issued update.stamp then 2 else 4
rank a (payload.Ack file stamp) = if settles a.issued stamp then 1 else 3
rank a _ = 1

-- a Read is promised, its Write accepted
abbrev pub lease_rank : Payload → ℕ
lease_rank (payload.Read file ballot) = 4
lease_rank (payload.Promise file ballot boot report) = 3
lease_rank (payload.Write file ballot boot lease) = 2
lease_rank (payload.Accepted file ballot boot) = 1
lease_rank (payload.Outrun file ballot seen) = 1
lease_rank _ = 0

-- whether a message is one of the lease
abbrev pub is_lease : Payload → Bool
is_lease content = is_some (lease_file content)

-- ---- a file

-- an update and its acknowledgement for each ask
abbrev pub asks_left : Asks → ℕ
asks_left asks = length asks.waiting + (if is_some asks.issued then 1 else 0)

-- a new epoch: where the own promise has passed the tenure's
abbrev pub epoch_left : FileRow → Option Tenure → ℕ
epoch_left row None = 0
epoch_left row (Some t) = if is_earlier t.epoch row.head.promised then 6 else 0

-- and where a lease is to be won, or is held without a tenure
abbrev pub tenure_left : LeaseState → Option Tenure → Asks → ℕ
tenure_left (lease.free p) t asks = 0
tenure_left _ (Some t) asks = 0
tenure_left _ None asks = 6 + 2 * asks_left asks
