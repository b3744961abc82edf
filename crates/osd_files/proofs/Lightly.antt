-- what a primary takes in place: nothing is recorded, and one that is active stays so
use Rattle.std.proofs.Common.{◌≡◌, ◌∙◌, ℕ, refl, ap, sym, subst, List, [], ◌∷◌, Bool, true, false, Option, Some, None, cond, arith}
use Rattle.std.proofs.lemmas.Bool.{and_parts, eqb-true}
use Rattle.std.specs.Prelude.{not, ◌&&◌, ◌||◌, ◌==◌, is_some, length}
use Rattle.xt_base.specs.declared.ids.Epoch.{Epoch}
use Rattle.xt_base.specs.declared.ids.Stamp.{Stamp}
use Rattle.xt_messages.specs.declared.file.ObjectVersion.{ObjectVersion}
use Rattle.xt_messages.specs.declared.file.FileHead.{FileHead}
use Rattle.xt_messages.specs.declared.file.Update.{Update}
use Rattle.xt_messages.specs.declared.message.Payload.{Payload}
use Rattle.xt_messages.specs.declared.message.Payload.TheVariants as payload
use Rattle.xt_protocol.specs.Folds.{body_of}
use Rattle.xt_protocol.specs.Stamps.{is_epoch, is_below}
use Rattle.xt_protocol.specs.declared.states.IssuedUpdate.{IssuedUpdate}
use Rattle.xt_protocol.specs.declared.states.PeerState.{PeerState}
use Rattle.xt_protocol.specs.declared.states.PeerState.TheVariants as peer
use Rattle.xt_protocol.specs.declared.states.PrimaryState.{PrimaryState}
use Rattle.xt_protocol.specs.declared.states.Progress.{Progress}
use Rattle.xt_protocol.specs.declared.states.Progress.TheVariants as progress
use Rattle.xt_protocol.specs.declared.states.Tenure.{Tenure}
use Rattle.xt_protocol.specs.Primaries.{Ground, Led, carries, is_active, is_active_in, is_ready, peer_in, with_node}
use Rattle.xt_protocol.specs.PrimaryRows.{message_epoch, with_state, body_staged, target_in, ack_update, acked_below, hears_ack, makes_current, hears_peer, hears_member, hears_epoch, hears_in, hears}
use Rattle.xt_base.specs.declared.ids.NodeId.{NodeId}
use Rattle.xt_messages.specs.declared.file.Capability.{Capability}
use Rattle.xt_messages.specs.declared.record.Record.{Record}
use Rattle.xt_protocol.specs.LeaseRows.{Awake}
use Rattle.xt_protocol.specs.declared.turned.Turned.{Turned}
use Rattle.xt_protocol.specs.declared.states.Asks.{Asks}
use Rattle.xt_protocol.specs.declared.states.WaitingAsk.{WaitingAsk}
use Rattle.xt_protocol.specs.FileStates.{FileState, ground_of}
use Rattle.xt_protocol.specs.Asks.{Served, asks_behind, no_asks, serves_all}
use Rattle.xt_protocol.specs.Turns.{quiet}
use Rattle.replica_primary.specs.Moves.{is_light_led}
use Rattle.osd_files.specs.Light.{asks_rest}
use Rattle.osd_files.specs.Serves.{asks_after}
use Rattle.osd_files.specs.Views.{FileView}
use Rattle.osd_files.proofs.Followed.{Leads, is_behind, site}
use Rattle.osd_files.proofs.Rows.{when_true}

-- Nothing is recorded, and the primary is active if this says so.
record Light (was_active : Bool) (led : Led) : Type 0 where
  none : led.turned.rec ≡ None
  active : was_active ≡ true → is_active led.primary.tenure ≡ true

either : (was : Bool) (b : Bool) (x y : Led) → Light was x → Light was y → Light was (cond b x y)
either was true x y l r = l
either was false x y l r = r

module _ (g : Ground) (learnt : ℕ) where
  staged : (t : Tenure) (target : Option FileHead) (from : NodeId) (state : PeerState) (v : ObjectVersion) → Light (is_active_in t.progress) (body_staged g learnt t target from state v)
  staged t (Some target) from (peer.Feeding known number version body) v = record { none = refl; active = λ was. was }
  staged t (Some target) from (peer.Heading known head) v = record { none = refl; active = λ was. was }
  staged t _ from _ v = record { none = refl; active = λ was. was }

  updated : (was : Bool) (t : Tenure) (head : FileHead) (update : Update) (acked : List NodeId) → Light was (ack_update g learnt t head update acked)
  updated was t head update acked =
      either was (carries g.place t.peers acked) _ _ (record { none = refl; active = λ w. refl }) (record { none = refl; active = λ w. refl })

  below : (t : Tenure) (head : FileHead) (from : NodeId) (stamp : Stamp) (newly : Bool) (issued : Option IssuedUpdate) → Light (is_active_in t.progress) (acked_below g learnt t head from stamp newly issued)
  below t head from stamp newly None = record { none = refl; active = λ was. was }
  below t head from stamp newly (Some issued) =
      either (is_active_in t.progress) (not (is_below stamp issued.update.stamp)) _ _ (updated (is_active_in t.progress) t head issued.update (with_node issued.acked from))
      (either (is_active_in t.progress) newly _ _ (record { none = refl; active = λ was. was }) (record { none = refl; active = λ was. was }))

  acked : (t : Tenure) (p : Progress) → t.progress ≡ p → (from : NodeId) (newly : Bool) (stamp : Stamp) → Light (is_active_in t.progress) (hears_ack g learnt t p from newly stamp)
  acked t (progress.Installing chosen nodes) is from true stamp =
      either (is_active_in t.progress) (carries g.place (with_state t from peer.Current).peers (with_node nodes from)) _ _ (record { none = refl; active = λ was. refl })
      (record { none = refl; active = λ was. ap is_active_in (sym is) ∙ was })
  acked t (progress.Installing chosen nodes) is from false stamp = record { none = refl; active = λ was. was }
  acked t (progress.Active head issued) is from true stamp = below (with_state t from peer.Current) head from stamp true issued
  acked t (progress.Active head issued) is from false stamp = below t head from stamp false issued
  acked t progress.Gathering is from newly stamp = record { none = refl; active = λ was. was }
  acked t (progress.Fetching chosen source asked later) is from newly stamp = record { none = refl; active = λ was. was }

  heard : (t : Tenure) (from : NodeId) (state : PeerState) (content : Payload) → is_light_led content ≡ true → Light (is_active_in t.progress) (hears_peer g learnt t from state content)
  heard t from state (payload.Staged file epoch number version) light = staged t (target_in g.own t.epoch t.progress) from state (body_of number version)
  heard t from state (payload.Ack file stamp) light = acked t t.progress refl from (makes_current g.place from state stamp) stamp
  heard t from state content light = absurd cc

  of_member : (t : Tenure) (from : NodeId) (o : Option PeerState) (content : Payload) → is_light_led content ≡ true → Light (is_active_in t.progress) (hears_member g learnt t from o content)
  of_member t from None content light = record { none = refl; active = λ was. was }
  of_member t from (Some state) content light = heard t from state content light

  of_epoch : (t : Tenure) (from : NodeId) (epoch : Option Epoch) (content : Payload) → is_light_led content ≡ true → Light (is_active_in t.progress) (hears_epoch g learnt t from epoch content)
  of_epoch t from None content light = record { none = refl; active = λ was. was }
  of_epoch t from (Some epoch) content light =
      either (is_active_in t.progress) (is_epoch epoch t.epoch) _ _ (of_member t from (peer_in t.peers from) content light) (record { none = refl; active = λ was. was })

  in_tenure : (tenure : Option Tenure) (from : NodeId) (content : Payload) → is_light_led content ≡ true → Light (is_active tenure) (hears_in g learnt tenure from content)
  in_tenure None from content light = record { none = refl; active = λ was. was }
  in_tenure (Some t) from content light = of_epoch t from (message_epoch content) content light

lightly : (g : Ground) (p : PrimaryState) (from : NodeId) (content : Payload) → is_light_led content ≡ true → Light (is_active p.tenure) (hears g p from content)
unfolding hears
lightly g p from content light = in_tenure g p.learnt p.tenure from content light

pub light_none : (g : Ground) (p : PrimaryState) (from : NodeId) (content : Payload) → is_light_led content ≡ true → (hears g p from content).turned.rec ≡ None
light_none g p from content light = (lightly g p from content light).none

pub recorded : (rec : Option Record) → is_some rec ≡ true → rec ≡ None → ⊥
recorded None some none = cc
recorded (Some rec) some none = cc

pub light_active : (g : Ground) (p : PrimaryState) (from : NodeId) (content : Payload) → is_light_led content ≡ true → is_active p.tenure ≡ true → is_active (hears g p from content).primary.tenure ≡ true
light_active g p from content light = (lightly g p from content light).active

-- The asks rest.

pub none_waits : (waiting : List WaitingAsk) (b : Bool) → (length waiting == 0 && b) ≡ true → waiting ≡ []
none_waits [] b is = refl
none_waits (ask ∷ others) b is =
    let none : length (ask ∷ others) ≡ 0 = eqb-true (length (ask ∷ others)) 0 (and_parts (length (ask ∷ others) == 0) b is).0 in
    absurd (omega arith)

rest_on : (none unissued was now : Bool) → (was ≡ true → now ≡ true) → (none && (unissued || was)) ≡ true → (none && (unissued || now)) ≡ true
rest_on true true was now stays is = refl
rest_on true false was now stays is = stays is
rest_on false unissued was now stays is = is

-- they rest on after what a primary takes in place
pub still_rest : (awake : Awake) (now : ℕ) (test : Capability → Bool) (records : List Record) (s : FileState) (from : NodeId) (content : Payload) (mid : FileView) (turned : Turned)
    → Leads awake now test records s from content mid turned → is_light_led content ≡ true → asks_rest s ≡ true → asks_rest mid.state ≡ true
still_rest awake now test records s from content mid turned row light is =
    let led = hears (ground_of (site awake now test records s from content) s) s.primary from content in
    subst (λ (st : FileState). asks_rest st ≡ true) (sym (is_behind awake now test records s from content mid turned row))
    (rest_on (length s.asks.waiting == 0) (not (is_some s.asks.issued)) (is_active s.primary.tenure) (is_active led.primary.tenure)
    (light_active (ground_of (site awake now test records s from content) s) s.primary from content light) is)

served_none : (g : Ground) (p : PrimaryState) → serves_all g p [] ≡ record { primary = p; asks = no_asks; turned = quiet }
unfolding serves_all
served_none g p = refl

-- none is served where none waits
pub settled_ready : (g : Ground) (was_ready : Bool) (p : PrimaryState) (asks : Asks) → asks.waiting ≡ [] → (is_ready p.tenure && not was_ready) ≡ true
    → record { primary = p; asks = record asks { issued = None }; turned = quiet } ≡ asks_after g was_ready p asks
settled_ready g was_ready p asks none ready =
    let left : Served = record { primary = p; asks = asks_behind p.tenure asks; turned = quiet } in
    let by : List WaitingAsk → Served = λ ws. record { primary = p; asks = record { waiting = ws; issued = None }; turned = quiet } in
    ap by none ∙ sym (served_none g p) ∙ ap (λ ws. serves_all g p ws) (sym none)
    ∙ sym (when_true (is_ready p.tenure && not was_ready) (serves_all g p asks.waiting) left ready)
