-- the committed head of a primary that has heard a message rises, where the own head does
use Rattle.std.proofs.Common.{◌≡◌, ℕ, List, [], ◌∷◌, Bool, true, false, subst, sym}
use Rattle.std.specs.Prelude.{Option, Some, None, cond, not, ◌&&◌, ◌==◌, max, nat_lt, nat_le}
use Rattle.xt_base.specs.declared.ids.NodeId.{NodeId}
use Rattle.xt_base.specs.declared.ids.Epoch.{Epoch}
use Rattle.xt_base.specs.declared.ids.Stamp.{Stamp}
use Rattle.xt_messages.specs.declared.file.ObjectVersion.{ObjectVersion}
use Rattle.xt_messages.specs.declared.file.FileHead.{FileHead}
use Rattle.xt_messages.specs.declared.file.Update.{Update}
use Rattle.xt_messages.specs.declared.message.Payload.{Payload}
use Rattle.xt_messages.specs.declared.message.Payload.TheVariants as payload
use Rattle.xt_base.specs.declared.TheConstants.{COUNTS}
use Rattle.xt_protocol.specs.Folds.{body_of}
use Rattle.xt_protocol.specs.Stamps.{is_epoch, is_earlier, is_below, is_version}
use Rattle.xt_protocol.specs.declared.states.Place.{Place}
use Rattle.xt_protocol.specs.declared.states.IssuedUpdate.{IssuedUpdate}
use Rattle.xt_protocol.specs.declared.states.PeerState.{PeerState}
use Rattle.xt_protocol.specs.declared.states.PeerState.TheVariants as peer
use Rattle.xt_protocol.specs.declared.states.Progress.{Progress}
use Rattle.xt_protocol.specs.declared.states.Progress.TheVariants as progress
use Rattle.xt_protocol.specs.declared.states.Tenure.{Tenure}
use Rattle.xt_protocol.specs.ReplicaRows.{stage_record}
use Rattle.xt_protocol.specs.Primaries.{Ground, Led, carries, is_unknown, majority_among, nodes_of, peer_in, reports_of, statuses_counted, with_node}
use Rattle.xt_protocol.specs.PrimaryRows.{draw_epoch, epoch_above, message_epoch, fetches, choose_head, chooses, status_counted, take_status, with_state, body_beyond, hears_object, body_staged, body_missed, hears_missing, target_in, ack_update, acked_below, hears_ack, makes_current, hears_peer, hears_member, hears_epoch, hears_in, committed}
use Rattle.object_versions.specs.Rising.{HeadRises}
use Rattle.osd_decisions.specs.Committed.{CommittedRises, CommittedUnder}

abbrev LedRises : Led → Type 0
LedRises led = CommittedUnder led.primary.tenure

either : (b : Bool) (x y : Led) → LedRises x → LedRises y → LedRises (cond b x y)
either true x y l r = l
either false x y l r = r

drawn : (place : Place) (learnt : ℕ) (own : FileHead) (nodes : List NodeId) → LedRises (draw_epoch place learnt own nodes)
unfolding draw_epoch
drawn place learnt own nodes = either (nat_lt (epoch_above place learnt own).number COUNTS) _ _ tt tt

module _ (g : Ground) (learnt : ℕ) where
  fetched : (h : Ground) (t : Tenure) (chosen : FileHead) (source : NodeId) (wanted : List ObjectVersion) → LedRises (fetches h learnt t chosen source wanted)
  fetched h t chosen source [] = tt
  fetched h t chosen source (v ∷ later) = tt

  chose : (t : Tenure) → CommittedRises t.progress → (reports : List (NodeId × FileHead)) → LedRises (chooses g learnt t reports)
  chose t r [] = r
  chose t r (first ∷ others) = chosen _
    where
      chosen : (best : NodeId × FileHead) → LedRises (choose_head g learnt t best)
      chosen best = either (best.0.0 == g.place.node.0) _ _ tt (fetched g t best.1 best.0 _)

  counted : (t : Tenure) → CommittedRises t.progress → LedRises (status_counted g learnt t)
  counted t r = either (nat_le (majority_among t.peers) (statuses_counted t.peers)) _ _ (chose t r (reports_of t.peers)) r

  told : (t : Tenure) → CommittedRises t.progress → (p : Progress) (from : NodeId) (head : FileHead) → LedRises (take_status g learnt t p from head)
  told t r progress.Gathering from head = counted (with_state t from (peer.Reported head)) r
  told t r (progress.Fetching chosen source asked later) from head = r
  told t r (progress.Installing chosen acked) from head = r
  told t r (progress.Active committed issued) from head = r

  object : (t : Tenure) → CommittedRises t.progress → (p : Progress) (from : NodeId) (number : ℕ) (version : Stamp) (bytes : List ℕ) → LedRises (hears_object g learnt t p from number version bytes)
  object t r (progress.Fetching chosen source asked later) from number version bytes =
      either (from.0 == source.0 && is_version asked (body_of number version)) _ _ (fetched (record g { body = body_beyond g.place.file (stage_record g.place.file g.held number version bytes) g.body }) t chosen source later) r
  object t r progress.Gathering from number version bytes = r
  object t r (progress.Installing chosen acked) from number version bytes = r
  object t r (progress.Active committed issued) from number version bytes = r

  staged : (t : Tenure) → CommittedRises t.progress → (target : Option FileHead) (from : NodeId) (state : PeerState) (v : ObjectVersion) → LedRises (body_staged g learnt t target from state v)
  staged t r (Some target) from (peer.Feeding known number version body) v = r
  staged t r (Some target) from (peer.Heading known head) v = r
  staged t r _ from _ v = r

  missed : (t : Tenure) → CommittedRises t.progress → (target : Option FileHead) (from : NodeId) (state : PeerState) (v : ObjectVersion) → LedRises (body_missed g learnt t target from state v)
  missed t r (Some target) from (peer.Heading known head) v = r
  missed t r _ from _ v = r

  missing : (t : Tenure) → CommittedRises t.progress → (p : Progress) (from : NodeId) (state : PeerState) (v : ObjectVersion) → LedRises (hears_missing g learnt t p from state v)
  missing t r (progress.Fetching chosen source asked later) from state v = either (from.0 == source.0) _ _ (drawn g.place learnt g.own (nodes_of t.peers)) r
  missing t r p from state v = missed t r (target_in g.own t.epoch p) from state v

  module _ (o : HeadRises g.own) where
    updated : (t : Tenure) (head : FileHead) → HeadRises head → (update : Update) (acked : List NodeId) → LedRises (ack_update g learnt t head update acked)
    updated t head r update acked = either (carries g.place t.peers acked) _ _ o r

    below : (t : Tenure) → CommittedRises t.progress → (head : FileHead) → HeadRises head → (from : NodeId) (stamp : Stamp) (newly : Bool) (issued : Option IssuedUpdate) → LedRises (acked_below g learnt t head from stamp newly issued)
    below t rt head r from stamp newly None = rt
    below t rt head r from stamp newly (Some issued) =
        either (not (is_below stamp issued.update.stamp)) _ _ (updated t head r issued.update _) (either newly _ _ rt rt)

    acked : (t : Tenure) → CommittedRises t.progress → (p : Progress) → CommittedRises p → (from : NodeId) (newly : Bool) (stamp : Stamp) → LedRises (hears_ack g learnt t p from newly stamp)
    acked t rt (progress.Installing chosen nodes) rp from true stamp = either (carries g.place (with_state t from peer.Current).peers (with_node nodes from)) _ _ o tt
    acked t rt (progress.Installing chosen nodes) rp from false stamp = rt
    acked t rt (progress.Active head issued) rp from true stamp = below (with_state t from peer.Current) rt head rp from stamp true issued
    acked t rt (progress.Active head issued) rp from false stamp = below t rt head rp from stamp false issued
    acked t rt progress.Gathering rp from newly stamp = rt
    acked t rt (progress.Fetching chosen source asked later) rp from newly stamp = rt

    heard : (t : Tenure) → CommittedRises t.progress → (from : NodeId) (state : PeerState) (content : Payload) → LedRises (hears_peer g learnt t from state content)
    heard t r from state (payload.Status file epoch head) = either (is_unknown state) _ _ (told t r t.progress from head) r
    heard t r from state (payload.Object file epoch number version bytes) = object t r t.progress from number version bytes
    heard t r from state (payload.Staged file epoch number version) = staged t r (target_in g.own t.epoch t.progress) from state (body_of number version)
    heard t r from state (payload.Missing file epoch number version) = missing t r t.progress from state (body_of number version)
    heard t r from state (payload.Ack file stamp) = acked t r t.progress r from (makes_current g.place from state stamp) stamp
    heard t r from state (payload.Behind file epoch stamp) = r
    heard t r from state (payload.Refused file epoch promised) =
        either (is_earlier t.epoch promised) _ _ (drawn g.place (max learnt promised.number) g.own (nodes_of t.peers)) r
    heard t r from state _ = r

    of_member : (t : Tenure) → CommittedRises t.progress → (from : NodeId) (state : Option PeerState) (content : Payload) → LedRises (hears_member g learnt t from state content)
    of_member t r from None content = r
    of_member t r from (Some state) content = heard t r from state content

    of_epoch : (t : Tenure) → CommittedRises t.progress → (from : NodeId) (epoch : Option Epoch) (content : Payload) → LedRises (hears_epoch g learnt t from epoch content)
    of_epoch t r from None content = r
    of_epoch t r from (Some epoch) content = either (is_epoch epoch t.epoch) _ _ (of_member t r from (peer_in t.peers from) content) r

    in_tenure : (tenure : Option Tenure) → CommittedUnder tenure → (from : NodeId) (content : Payload) → LedRises (hears_in g learnt tenure from content)
    in_tenure None r from content = tt
    in_tenure (Some t) r from content = of_epoch t r from (message_epoch content) content

    -- A message leaves a committed head that rises.
    pub hears_rises : (tenure : Option Tenure) → CommittedUnder tenure → (from : NodeId) (content : Payload) (led : Led) → led ≡ hears_in g learnt tenure from content
        → CommittedUnder led.primary.tenure
    hears_rises tenure r from content led is = subst LedRises (sym is) (in_tenure tenure r from content)
