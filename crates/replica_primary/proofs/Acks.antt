-- what an acknowledgement does, as the code puts it
use Rattle.std.proofs.Common.{◌≡◌, ◌∙◌, ◌∷◌, [], ℕ, Bool, true, false, Option, Some, None, List, refl, ap, sym, suc}
use Rattle.std.specs.Prelude.{cond, not, ◌&&◌, ◌==◌, ◌+◌, ◌/◌, nat_le, length}
use Rattle.xt_base.specs.declared.ids.Epoch.{Epoch}
use Rattle.xt_base.specs.declared.ids.NodeId.{NodeId}
use Rattle.xt_base.specs.declared.ids.Stamp.{Stamp}
use Rattle.xt_base.specs.MemberList.{has_node}
use Rattle.xt_messages.specs.declared.file.FileHead.{FileHead}
use Rattle.xt_messages.specs.declared.file.Update.{Update}
use Rattle.xt_messages.specs.declared.message.Payload.TheVariants as payload
use Rattle.xt_protocol.specs.declared.turned.Turned.{Turned}
use Rattle.xt_protocol.specs.Stamps.{is_below}
use Rattle.xt_protocol.specs.declared.states.IssuedUpdate.{IssuedUpdate}
use Rattle.xt_protocol.specs.declared.states.Peer.{Peer}
use Rattle.xt_protocol.specs.declared.states.PeerState.{PeerState}
use Rattle.xt_protocol.specs.declared.states.PeerState.TheVariants as peer
use Rattle.xt_protocol.specs.declared.states.Place.{Place}
use Rattle.xt_protocol.specs.declared.states.Progress.{Progress}
use Rattle.xt_protocol.specs.declared.states.Progress.TheVariants as progress
use Rattle.xt_protocol.specs.declared.states.Tenure.{Tenure}
use Rattle.xt_protocol.specs.Turns.{message, quiet, sends}
use Rattle.xt_protocol.specs.Primaries.{Ground, Led, carries, is_active_in, issued_in, with_node, with_peer}
use Rattle.xt_protocol.specs.PrimaryRows.{goes_on, hears_ack, unmoved, ack_update}
use Rattle.replica_primary.specs.Acks.{acked_by, acked_in, current_after, is_installing, peers_after, report_majority, with_ack}

-- A peer that becomes current after its acknowledgement was counted.

peers_count : (peers : List Peer) (node : NodeId) (state : PeerState) → length (with_peer peers node state) ≡ length peers
unfolding with_peer
peers_count [] node state = refl
peers_count (p ∷ ps) node state = one_of (p.node.0 == node.0) (peers_count ps node state)
  where
    one_of : (b : Bool) → length (with_peer ps node state) ≡ length ps → length (cond b (record { node = p.node; state = state } ∷ ps) (p ∷ with_peer ps node state)) ≡ suc (length ps)
    one_of true rest = refl
    one_of false rest = ap suc rest

carried_still : (place : Place) (peers : List Peer) (from : NodeId) (newly : Bool) (acked : List NodeId) → carries place peers acked ≡ carries place (peers_after peers from newly) acked
carried_still place peers from true acked = ap (λ (n : ℕ). nat_le (n / 2 + 1) (length acked) && has_node acked place.node.0) (sym (peers_count peers from peer.Current))
carried_still place peers from false acked = refl

module _ (from : NodeId) (newly : Bool) where
  abbrev current_under : Option Tenure → Option Tenure
  current_under None = None
  current_under (Some t) = Some (current_after t from newly)

  abbrev current : Led → Led
  current led = record { primary = record { learnt = led.primary.learnt; tenure = current_under led.primary.tenure }; turned = led.turned }

  either : (b c : Bool) (x y : Led) → b ≡ c → current (cond b x y) ≡ cond c (current x) (current y)
  either true c x y is = ap (λ (d : Bool). cond d (current x) (current y)) is
  either false c x y is = ap (λ (d : Bool). cond d (current x) (current y)) is

  pub current_later : (place : Place) (own : FileHead) (learnt : ℕ) (t after : Tenure) (turned : Turned) → goes_on learnt after turned ≡ acked_by place own learnt t from
      → goes_on learnt (current_after after from newly) turned ≡ acked_by place own learnt (current_after t from newly) from
  current_later place own learnt t after turned is =
      let acked = with_node (acked_in t.progress) from in
      ap current is
      ∙ either (carries place t.peers acked) (carries place (peers_after t.peers from newly) acked)
      (goes_on learnt (record t { progress = progress.Active own None }) (report_majority place own t.progress)) (unmoved learnt (record t { progress = with_ack t.progress from }))
      (carried_still place t.peers from newly acked)

-- the head that is installed is acknowledged
pub installing_by : (g : Ground) (learnt : ℕ) (t : Tenure) (from : NodeId) (stamp : Stamp) (p : Progress) → is_installing p ≡ true
    → acked_by g.place g.own learnt (record { epoch = t.epoch; peers = with_peer t.peers from peer.Current; progress = p }) from ≡ hears_ack g learnt t p from true stamp
installing_by g learnt t from stamp (progress.Installing chosen acked) is = refl
installing_by g learnt t from stamp progress.Gathering is = absurd cc
installing_by g learnt t from stamp (progress.Fetching chosen source asked later) is = absurd cc
installing_by g learnt t from stamp (progress.Active head issued) is = absurd cc

-- the update to a peer that has just become current
abbrev pub newly_told : Ground → NodeId → Bool → Update → Turned
newly_told g from newly update = cond newly (sends (message g.place.node from (payload.Update g.place.file update) ∷ [])) quiet

module _ (g : Ground) (learnt : ℕ) (epoch : Epoch) (peers : List Peer) (from : NodeId) (stamp : Stamp) where
  abbrev before : Progress → Tenure
  before p = record { epoch = epoch; peers = peers; progress = p }

  abbrev after : Bool → Progress → Tenure
  after newly p = record { epoch = epoch; peers = peers_after peers from newly; progress = p }

  -- nothing is issued
  pub none_acked : (newly : Bool) (p : Progress) → is_active_in p ≡ true → issued_in p ≡ None
      → unmoved learnt (record { epoch = epoch; peers = peers_after peers from newly; progress = p })
      ≡ hears_ack g learnt (record { epoch = epoch; peers = peers; progress = p }) p from newly stamp
  none_acked true (progress.Active head None) active none = refl
  none_acked false (progress.Active head None) active none = refl
  none_acked newly (progress.Active head (Some issued)) active none = absurd cc
  none_acked newly progress.Gathering active none = absurd cc
  none_acked newly (progress.Fetching chosen source asked later) active none = absurd cc
  none_acked newly (progress.Installing chosen acked) active none = absurd cc

  below_issued : (newly : Bool) (head : FileHead) (issued : IssuedUpdate) → is_below stamp issued.update.stamp ≡ true
      → goes_on learnt (after newly (progress.Active head (Some issued))) (newly_told g from newly issued.update)
      ≡ hears_ack g learnt (before (progress.Active head (Some issued))) (progress.Active head (Some issued)) from newly stamp
  below_issued true head issued is =
      let t = after true (progress.Active head (Some issued)) in
      sym (ap (λ (b : Bool). cond (not b) (ack_update g learnt t head issued.update (with_node issued.acked from)) (goes_on learnt t (newly_told g from true issued.update))) is)
  below_issued false head issued is =
      let t = after false (progress.Active head (Some issued)) in
      sym (ap (λ (b : Bool). cond (not b) (ack_update g learnt t head issued.update (with_node issued.acked from)) (unmoved learnt t)) is)

  -- it is of an update below the issued one
  pub below_acked : (newly : Bool) (p : Progress) (issued : IssuedUpdate) → is_active_in p ≡ true → issued_in p ≡ Some issued → is_below stamp issued.update.stamp ≡ true
      → goes_on learnt (record { epoch = epoch; peers = peers_after peers from newly; progress = p }) (newly_told g from newly issued.update)
      ≡ hears_ack g learnt (record { epoch = epoch; peers = peers; progress = p }) p from newly stamp
  below_acked newly (progress.Active head (Some it)) issued active some is =
      let same : issued ≡ it = cc in
      ap (λ (i : IssuedUpdate). goes_on learnt (after newly (progress.Active head (Some it))) (newly_told g from newly i.update)) same
      ∙ below_issued newly head it (sym (ap (λ (i : IssuedUpdate). is_below stamp i.update.stamp) same) ∙ is)
  below_acked newly (progress.Active head None) issued active some is = absurd cc
  below_acked newly progress.Gathering issued active some is = absurd cc
  below_acked newly (progress.Fetching chosen source asked later) issued active some is = absurd cc
  below_acked newly (progress.Installing chosen acked) issued active some is = absurd cc

  of_issued : (newly : Bool) (head : FileHead) (issued : IssuedUpdate) → is_below stamp issued.update.stamp ≡ false
      → acked_by g.place g.own learnt (after newly (progress.Active head (Some issued))) from
      ≡ hears_ack g learnt (before (progress.Active head (Some issued))) (progress.Active head (Some issued)) from newly stamp
  of_issued true head issued is =
      let t = after true (progress.Active head (Some issued)) in
      sym (ap (λ (b : Bool). cond (not b) (ack_update g learnt t head issued.update (with_node issued.acked from)) (goes_on learnt t (newly_told g from true issued.update))) is)
  of_issued false head issued is =
      let t = after false (progress.Active head (Some issued)) in
      sym (ap (λ (b : Bool). cond (not b) (ack_update g learnt t head issued.update (with_node issued.acked from)) (unmoved learnt t)) is)

  -- it is of the issued update
  pub issued_acked : (newly : Bool) (p : Progress) (issued : IssuedUpdate) → is_active_in p ≡ true → issued_in p ≡ Some issued → is_below stamp issued.update.stamp ≡ false
      → acked_by g.place g.own learnt (record { epoch = epoch; peers = peers_after peers from newly; progress = p }) from
      ≡ hears_ack g learnt (record { epoch = epoch; peers = peers; progress = p }) p from newly stamp
  issued_acked newly (progress.Active head (Some it)) issued active some is =
      let same : issued ≡ it = cc in
      of_issued newly head it (sym (ap (λ (i : IssuedUpdate). is_below stamp i.update.stamp) same) ∙ is)
  issued_acked newly (progress.Active head None) issued active some is = absurd cc
  issued_acked newly progress.Gathering issued active some is = absurd cc
  issued_acked newly (progress.Fetching chosen source asked later) issued active some is = absurd cc
  issued_acked newly (progress.Installing chosen acked) issued active some is = absurd cc
