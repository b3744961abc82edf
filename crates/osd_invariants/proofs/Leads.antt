-- what the rows of a primary leave: its peers, what is issued, and whether it is active
use Rattle.std.proofs.Common.{◌≡◌, ℕ, refl, ap, sym, subst, ◌∙◌, List, [], ◌∷◌, Bool, true, false}
use Rattle.std.specs.Prelude.{Option, Some, None, cond, not, ◌&&◌, ◌==◌, max, nat_lt, nat_le, map}
use Rattle.xt_base.specs.declared.ids.NodeId.{NodeId}
use Rattle.xt_base.specs.declared.ids.Epoch.{Epoch}
use Rattle.xt_base.specs.declared.ids.Stamp.{Stamp}
use Rattle.xt_messages.specs.declared.file.ObjectVersion.{ObjectVersion}
use Rattle.xt_messages.specs.declared.file.FileHead.{FileHead}
use Rattle.xt_messages.specs.declared.message.Payload.{Payload}
use Rattle.xt_messages.specs.declared.message.Payload.TheVariants as payload
use Rattle.xt_messages.specs.declared.record.Record.{Record}
use Rattle.xt_messages.specs.declared.record.Record.TheVariants as kept
use Rattle.xt_messages.specs.declared.record.FileRow.{FileRow}
use Rattle.xt_base.specs.declared.TheConstants.{COUNTS}
use Rattle.xt_protocol.specs.Folds.{body_of}
use Rattle.xt_protocol.specs.declared.states.Place.{Place}
use Rattle.xt_protocol.specs.declared.states.IssuedUpdate.{IssuedUpdate}
use Rattle.xt_protocol.specs.declared.states.Peer.{Peer}
use Rattle.xt_protocol.specs.declared.states.PeerState.{PeerState}
use Rattle.xt_protocol.specs.declared.states.PeerState.TheVariants as peer
use Rattle.xt_protocol.specs.declared.states.Progress.{Progress}
use Rattle.xt_protocol.specs.declared.states.Progress.TheVariants as progress
use Rattle.xt_protocol.specs.declared.states.Tenure.{Tenure}
use Rattle.xt_protocol.specs.Stamps.{has_version, is_epoch, is_earlier, is_below, is_version}
use Rattle.xt_protocol.specs.ReplicaRows.{kept_after, stage_record}
use Rattle.xt_protocol.specs.Primaries.{Ground, Led, carries, is_unknown, is_ready, is_ready_in, is_active, is_active_in, issued_in, issued_by, majority_among, nodes_of, peer_in, reports_of, statuses_counted, target_of, unknown_peer, with_node, with_peer}
use Rattle.xt_protocol.specs.PrimaryRows.{draw_epoch, epoch_above, installs, feed_peers, fetches, choose_head, chooses, status_counted, feeds, take_status, with_state, take_body, body_beyond, hears_object, body_staged, body_missed, hears_missing, target_in, ack_update, acked_below, hears_ack, makes_current, hears_peer, hears_member, hears_epoch, unmoved}
use Rattle.osd_invariants.specs.Sound.{PeersAre}

-- a record that leaves the list
abbrev pub KeepsList : Option Record → Type 0
KeepsList rec = (row : FileRow) → (kept_after row rec).location ≡ row.location

abbrev pub SameIssued : Option IssuedUpdate → Option IssuedUpdate → Type 0
SameIssued None None = Unit {0}
SameIssued (Some u) (Some v) = u.update ≡ v.update
SameIssued None (Some v) = ⊥
SameIssued (Some u) None = ⊥

pub same_itself : (i : Option IssuedUpdate) → SameIssued i i
same_itself None = tt
same_itself (Some u) = refl

-- how a primary's progress changes: it becomes active; it isn't active; or it goes on as before
pub data Moved (p : Progress) (after : Option Tenure) : Type 0 where
  readied : is_ready_in p ≡ false → is_ready after ≡ true → Moved p after
  unready : is_active after ≡ false → Moved p after
  went_on : SameIssued (issued_in p) (issued_by after) → is_ready after ≡ is_ready_in p → is_active after ≡ is_active_in p → Moved p after

pub record Leads (members : List NodeId) (p : Progress) (led : Led) : Type 0 where
  pub rec : KeepsList led.turned.rec
  pub peers : PeersAre members led.primary.tenure
  pub moved : Moved p led.primary.tenure

either : (members : List NodeId) (p : Progress) (b : Bool) (x y : Led) → Leads members p x → Leads members p y → Leads members p (cond b x y)
either members p true x y l r = l
either members p false x y l r = r

-- peers

fresh_nodes : (nodes : List NodeId) → nodes_of (map unknown_peer nodes) ≡ nodes
fresh_nodes [] = refl
fresh_nodes (n ∷ ns) = ap (λ others. n ∷ others) (fresh_nodes ns)

fed_nodes : (g : Ground) (target : FileHead) (peers : List Peer) → nodes_of (feed_peers g target peers) ≡ nodes_of peers
fed_nodes g target [] = refl
fed_nodes g target (p ∷ ps) = ap (λ others. p.node ∷ others) (fed_nodes g target ps)

pub put_nodes : (peers : List Peer) (node : NodeId) (state : PeerState) → nodes_of (with_peer peers node state) ≡ nodes_of peers
unfolding with_peer
put_nodes [] node state = refl
put_nodes (p ∷ ps) node state = one_of (p.node.0 == node.0) (put_nodes ps node state)
  where
    one_of : (b : Bool) → nodes_of (with_peer ps node state) ≡ nodes_of ps
        → nodes_of (cond b (record { node = p.node; state = state } ∷ ps) (p ∷ with_peer ps node state)) ≡ p.node ∷ nodes_of ps
    one_of true rest = refl
    one_of false rest = ap (λ others. p.node ∷ others) rest

-- rows

still : (members : List NodeId) (learnt : ℕ) (t : Tenure) → nodes_of t.peers ≡ members → Leads members t.progress (unmoved learnt t)
still members learnt t nodes = record { rec = λ row. refl; peers = nodes; moved = went_on (same_itself (issued_in t.progress)) refl refl }

pub drawn_leads : (members : List NodeId) (p : Progress) (place : Place) (learnt : ℕ) (own : FileHead) (nodes : List NodeId) → nodes ≡ members
    → Leads members p (draw_epoch place learnt own nodes)
unfolding draw_epoch
drawn_leads members p place learnt own nodes are =
    either members p (nat_lt (epoch_above place learnt own).number COUNTS) _ _
    (record { rec = λ row. refl; peers = fresh_nodes nodes ∙ are; moved = unready refl }) (record { rec = λ row. refl; peers = tt; moved = unready refl })

installs_leads : (members : List NodeId) (p : Progress) (g : Ground) (learnt : ℕ) (t : Tenure) (chosen : FileHead) → nodes_of t.peers ≡ members
    → Leads members p (installs g learnt t chosen)
installs_leads members p g learnt t chosen nodes =
    record { rec = λ row. refl; peers = fed_nodes g (target_of g.own t.epoch chosen) t.peers ∙ nodes; moved = unready refl }

fetches_leads : (members : List NodeId) (p : Progress) (g : Ground) (learnt : ℕ) (t : Tenure) (chosen : FileHead) (source : NodeId) (wanted : List ObjectVersion)
    → nodes_of t.peers ≡ members → Leads members p (fetches g learnt t chosen source wanted)
fetches_leads members p g learnt t chosen source [] nodes = installs_leads members p g learnt t chosen nodes
fetches_leads members p g learnt t chosen source (v ∷ later) nodes = record { rec = λ row. refl; peers = nodes; moved = unready refl }

chosen_leads : (members : List NodeId) (p : Progress) (g : Ground) (learnt : ℕ) (t : Tenure) (best : NodeId × FileHead) → nodes_of t.peers ≡ members
    → Leads members p (choose_head g learnt t best)
chosen_leads members p g learnt t best nodes =
    either members p (best.0.0 == g.place.node.0) _ _ (installs_leads members p g learnt t best.1 nodes) (fetches_leads members p g learnt t best.1 best.0 _ nodes)

chooses_leads : (members : List NodeId) (g : Ground) (learnt : ℕ) (t : Tenure) (reports : List (NodeId × FileHead)) → nodes_of t.peers ≡ members
    → Leads members t.progress (chooses g learnt t reports)
chooses_leads members g learnt t [] nodes = still members learnt t nodes
chooses_leads members g learnt t (first ∷ others) nodes = chosen_leads members t.progress g learnt t _ nodes

counted_leads : (members : List NodeId) (g : Ground) (learnt : ℕ) (t : Tenure) → nodes_of t.peers ≡ members → Leads members t.progress (status_counted g learnt t)
counted_leads members g learnt t nodes =
    either members t.progress (nat_le (majority_among t.peers) (statuses_counted t.peers)) _ _ (chooses_leads members g learnt t (reports_of t.peers) nodes)
    (still members learnt t nodes)

-- a row that only changes a peer
at_peer : (members : List NodeId) (t : Tenure) (node : NodeId) (state : PeerState) → nodes_of t.peers ≡ members → nodes_of (with_state t node state).peers ≡ members
at_peer members t node state nodes = put_nodes t.peers node state ∙ nodes

feeds_leads : (members : List NodeId) (g : Ground) (learnt : ℕ) (t : Tenure) (node : NodeId) (target : FileHead) (known : List ObjectVersion)
    → nodes_of t.peers ≡ members → Leads members t.progress (feeds g learnt t node target known)
feeds_leads members g learnt t node target known nodes =
    record { rec = λ row. refl; peers = at_peer members t node _ nodes; moved = went_on (same_itself (issued_in t.progress)) refl refl }

told_leads : (members : List NodeId) (g : Ground) (learnt : ℕ) (t : Tenure) (p : Progress) (from : NodeId) (head : FileHead) → nodes_of t.peers ≡ members
    → Leads members t.progress (take_status g learnt t p from head)
told_leads members g learnt t progress.Gathering from head nodes =
    counted_leads members g learnt (with_state t from (peer.Reported head)) (at_peer members t from _ nodes)
told_leads members g learnt t (progress.Fetching chosen source asked later) from head nodes =
    still members learnt (with_state t from (peer.Reported head)) (at_peer members t from _ nodes)
told_leads members g learnt t (progress.Installing chosen acked) from head nodes = feeds_leads members g learnt t from _ _ nodes
told_leads members g learnt t (progress.Active committed issued) from head nodes = feeds_leads members g learnt t from _ _ nodes

staged_list : (g : Ground) (object : ℕ) (version : Stamp) (bytes : List ℕ) → KeepsList (stage_record g.place.file g.held object version bytes)
staged_list g object version bytes row = one_of (has_version g.held (body_of object version))
  where
    one_of : (b : Bool) → (kept_after row (cond b None (Some (kept.Stage g.place.file object version bytes)))).location ≡ row.location
    one_of true = refl
    one_of false = refl

fetched_leads : (members : List NodeId) (p : Progress) (g : Ground) (learnt : ℕ) (t : Tenure) (chosen : FileHead) (source : NodeId) (later : List ObjectVersion)
    (object : ℕ) (version : Stamp) (bytes : List ℕ) → nodes_of t.peers ≡ members
    → Leads members p (take_body g learnt t chosen source later object version bytes)
fetched_leads members p g learnt t chosen source later object version bytes nodes =
    let q = fetches_leads members p (record g { body = body_beyond g.place.file (stage_record g.place.file g.held object version bytes) g.body }) learnt t chosen source later nodes in
    record { rec = staged_list g object version bytes; peers = q.peers; moved = q.moved }

object_leads : (members : List NodeId) (g : Ground) (learnt : ℕ) (t : Tenure) (p : Progress) (from : NodeId) (object : ℕ) (version : Stamp) (bytes : List ℕ)
    → nodes_of t.peers ≡ members → Leads members t.progress (hears_object g learnt t p from object version bytes)
object_leads members g learnt t (progress.Fetching chosen source asked later) from object version bytes nodes =
    either members t.progress (from.0 == source.0 && is_version asked (body_of object version)) _ _
    (fetched_leads members t.progress g learnt t chosen source later object version bytes nodes) (still members learnt t nodes)
object_leads members g learnt t _ from object version bytes nodes = still members learnt t nodes

staged_leads : (members : List NodeId) (g : Ground) (learnt : ℕ) (t : Tenure) (target : Option FileHead) (from : NodeId) (state : PeerState) (v : ObjectVersion)
    → nodes_of t.peers ≡ members → Leads members t.progress (body_staged g learnt t target from state v)
staged_leads members g learnt t (Some target) from (peer.Feeding known object version body) v nodes = feeds_leads members g learnt t from target _ nodes
staged_leads members g learnt t (Some target) from (peer.Heading known head) v nodes = feeds_leads members g learnt t from target _ nodes
staged_leads members g learnt t _ from _ v nodes = still members learnt t nodes

missed_leads : (members : List NodeId) (g : Ground) (learnt : ℕ) (t : Tenure) (target : Option FileHead) (from : NodeId) (state : PeerState) (v : ObjectVersion)
    → nodes_of t.peers ≡ members → Leads members t.progress (body_missed g learnt t target from state v)
missed_leads members g learnt t (Some target) from (peer.Heading known head) v nodes = feeds_leads members g learnt t from target _ nodes
missed_leads members g learnt t _ from _ v nodes = still members learnt t nodes

missing_leads : (members : List NodeId) (g : Ground) (learnt : ℕ) (t : Tenure) (p : Progress) (from : NodeId) (state : PeerState) (v : ObjectVersion)
    → nodes_of t.peers ≡ members → Leads members t.progress (hears_missing g learnt t p from state v)
missing_leads members g learnt t (progress.Fetching chosen source asked later) from state v nodes =
    either members t.progress (from.0 == source.0) _ _ (drawn_leads members t.progress g.place learnt g.own (nodes_of t.peers) nodes) (still members learnt t nodes)
missing_leads members g learnt t p from state v nodes = missed_leads members g learnt t (target_in g.own t.epoch p) from state v nodes

-- a tenure that goes on in this progress
as_before : (members : List NodeId) (p : Progress) (t : Tenure) (led : Led) → nodes_of t.peers ≡ members → t.progress ≡ p → led.primary.tenure ≡ Some t
    → led.turned.rec ≡ None → Leads members p led
as_before members p t led nodes is goes none =
    record {
      rec = λ row. ap (λ r. (kept_after row r).location) none;
      peers = subst (λ o. PeersAre members o) (sym goes) nodes;
      moved = subst (λ o. Moved p o) (sym goes) (subst (λ q. Moved q (Some t)) is (went_on (same_itself (issued_in t.progress)) refl refl));
    }

update_acked_leads : (members : List NodeId) (g : Ground) (learnt : ℕ) (t : Tenure) (head : FileHead) (issued : IssuedUpdate) (acked : List NodeId)
    → nodes_of t.peers ≡ members → Leads members (progress.Active head (Some issued)) (ack_update g learnt t head issued.update acked)
update_acked_leads members g learnt t head issued acked nodes =
    either members (progress.Active head (Some issued)) (carries g.place t.peers acked) _ _
    (record { rec = λ row. refl; peers = nodes; moved = readied refl refl }) (record { rec = λ row. refl; peers = nodes; moved = went_on refl refl refl })

below_leads : (members : List NodeId) (g : Ground) (learnt : ℕ) (t : Tenure) (head : FileHead) (from : NodeId) (stamp : Stamp) (newly : Bool) (issued : Option IssuedUpdate)
    → nodes_of t.peers ≡ members → t.progress ≡ progress.Active head issued
    → Leads members (progress.Active head issued) (acked_below g learnt t head from stamp newly issued)
below_leads members g learnt t head from stamp newly None nodes is = as_before members (progress.Active head None) t _ nodes is refl refl
below_leads members g learnt t head from stamp newly (Some issued) nodes is =
    let p = progress.Active head (Some issued) in
    either members p (not (is_below stamp issued.update.stamp)) _ _ (update_acked_leads members g learnt t head issued (with_node issued.acked from) nodes)
    (either members p newly _ _ (as_before members p t _ nodes is refl refl) (as_before members p t _ nodes is refl refl))

-- a peer becomes current, or not
newly_nodes : (members : List NodeId) (t : Tenure) (from : NodeId) (newly : Bool) → nodes_of t.peers ≡ members
    → nodes_of (cond newly (with_state t from peer.Current) t).peers ≡ members
newly_nodes members t from true nodes = at_peer members t from peer.Current nodes
newly_nodes members t from false nodes = nodes

newly_progress : (t : Tenure) (from : NodeId) (newly : Bool) → (cond newly (with_state t from peer.Current) t).progress ≡ t.progress
newly_progress t from true = refl
newly_progress t from false = refl

ack_leads : (members : List NodeId) (g : Ground) (learnt : ℕ) (t : Tenure) (p : Progress) (from : NodeId) (newly : Bool) (stamp : Stamp) → nodes_of t.peers ≡ members
    → t.progress ≡ p → Leads members p (hears_ack g learnt t p from newly stamp)
ack_leads members g learnt t (progress.Installing chosen acked) from newly stamp nodes is =
    let p = progress.Installing chosen acked in
    let there = at_peer members t from peer.Current nodes in
    either members p newly _ _
    (either members p (carries g.place (with_state t from peer.Current).peers (with_node acked from)) _ _
    (record { rec = λ row. refl; peers = there; moved = readied refl refl }) (record { rec = λ row. refl; peers = there; moved = unready refl }))
    (as_before members p t _ nodes is refl refl)
ack_leads members g learnt t (progress.Active head issued) from newly stamp nodes is =
    below_leads members g learnt (cond newly (with_state t from peer.Current) t) head from stamp newly issued (newly_nodes members t from newly nodes)
    (newly_progress t from newly ∙ is)
ack_leads members g learnt t progress.Gathering from newly stamp nodes is = as_before members progress.Gathering t _ nodes is refl refl
ack_leads members g learnt t (progress.Fetching chosen source asked later) from newly stamp nodes is =
    as_before members (progress.Fetching chosen source asked later) t _ nodes is refl refl

peer_leads : (members : List NodeId) (g : Ground) (learnt : ℕ) (t : Tenure) (from : NodeId) (state : PeerState) (content : Payload) → nodes_of t.peers ≡ members
    → Leads members t.progress (hears_peer g learnt t from state content)
peer_leads members g learnt t from state (payload.Status file epoch head) nodes =
    either members t.progress (is_unknown state) _ _ (told_leads members g learnt t t.progress from head nodes) (still members learnt t nodes)
peer_leads members g learnt t from state (payload.Object file epoch object version bytes) nodes = object_leads members g learnt t t.progress from object version bytes nodes
peer_leads members g learnt t from state (payload.Staged file epoch object version) nodes =
    staged_leads members g learnt t (target_in g.own t.epoch t.progress) from state _ nodes
peer_leads members g learnt t from state (payload.Missing file epoch object version) nodes = missing_leads members g learnt t t.progress from state _ nodes
peer_leads members g learnt t from state (payload.Ack file stamp) nodes = ack_leads members g learnt t t.progress from (makes_current g.place from state stamp) stamp nodes refl
peer_leads members g learnt t from state (payload.Behind file epoch stamp) nodes =
    record { rec = λ row. refl; peers = at_peer members t from _ nodes; moved = went_on (same_itself (issued_in t.progress)) refl refl }
peer_leads members g learnt t from state (payload.Refused file epoch promised) nodes =
    either members t.progress (is_earlier t.epoch promised) _ _ (drawn_leads members t.progress g.place (max learnt promised.number) g.own (nodes_of t.peers) nodes)
    (still members learnt t nodes)
peer_leads members g learnt t from state _ nodes = still members learnt t nodes

member_leads : (members : List NodeId) (g : Ground) (learnt : ℕ) (t : Tenure) (from : NodeId) (state : Option PeerState) (content : Payload) → nodes_of t.peers ≡ members
    → Leads members t.progress (hears_member g learnt t from state content)
member_leads members g learnt t from None content nodes = still members learnt t nodes
member_leads members g learnt t from (Some state) content nodes = peer_leads members g learnt t from state content nodes

pub epoch_leads : (members : List NodeId) (g : Ground) (learnt : ℕ) (t : Tenure) (from : NodeId) (told : Option Epoch) (content : Payload) → nodes_of t.peers ≡ members
    → Leads members t.progress (hears_epoch g learnt t from told content)
epoch_leads members g learnt t from None content nodes = still members learnt t nodes
epoch_leads members g learnt t from (Some epoch) content nodes =
    either members t.progress (is_epoch epoch t.epoch) _ _ (member_leads members g learnt t from (peer_in t.peers from) content nodes) (still members learnt t nodes)
