-- no row of a primary sends or marks anything about leases
use Rattle.std.proofs.Common.{◌≡◌, ℕ, refl, ap, ◌∙◌, List, [], ◌∷◌, Bool, true, false}
use Rattle.std.specs.Prelude.{Option, Some, None, cond, not, ◌&&◌, ◌==◌, max, nat_lt, nat_le, is_some, fold}
use Rattle.xt_base.specs.declared.ids.NodeId.{NodeId}
use Rattle.xt_base.specs.declared.ids.OpId.{OpId}
use Rattle.xt_base.specs.declared.ids.Epoch.{Epoch}
use Rattle.xt_base.specs.declared.ids.Stamp.{Stamp}
use Rattle.xt_messages.specs.declared.file.ObjectVersion.{ObjectVersion}
use Rattle.xt_messages.specs.declared.file.FileHead.{FileHead}
use Rattle.xt_messages.specs.declared.file.Update.{Update}
use Rattle.xt_messages.specs.declared.file.Op.{Op}
use Rattle.xt_messages.specs.declared.reply.Reply.{Reply}
use Rattle.xt_messages.specs.declared.reply.Reply.TheVariants as reply
use Rattle.xt_messages.specs.declared.message.Payload.{Payload}
use Rattle.xt_messages.specs.declared.message.Payload.TheVariants as payload
use Rattle.xt_base.specs.MemberList.{has_node}
use Rattle.xt_protocol.specs.declared.turned.Turned.{Turned}
use Rattle.xt_base.specs.declared.TheConstants.{COUNTS}
use Rattle.xt_protocol.specs.declared.states.Place.{Place}
use Rattle.xt_protocol.specs.declared.states.WaitingAsk.{WaitingAsk}
use Rattle.xt_protocol.specs.declared.states.IssuedUpdate.{IssuedUpdate}
use Rattle.xt_protocol.specs.declared.states.Asks.{Asks}
use Rattle.xt_protocol.specs.declared.states.PeerState.{PeerState}
use Rattle.xt_protocol.specs.declared.states.PeerState.TheVariants as peer
use Rattle.xt_protocol.specs.declared.states.Progress.{Progress}
use Rattle.xt_protocol.specs.declared.states.Progress.TheVariants as progress
use Rattle.xt_protocol.specs.declared.states.PrimaryState.{PrimaryState}
use Rattle.xt_protocol.specs.declared.states.Tenure.{Tenure}
use Rattle.xt_protocol.specs.Turns.{message, joined}
use Rattle.xt_protocol.specs.Stamps.{is_epoch, is_earlier, is_below, is_version}
use Rattle.xt_protocol.specs.Writes.{WriteStanding, repeated, older, turned_away, fresh}
use Rattle.xt_protocol.specs.Primaries.{Ground, Led, carries, fed, if_any, is_unknown, is_ready, known_of_report, majority_among, nodes_of, peer_in, reports_of, statuses_counted, target_of, with_node}
use Rattle.xt_protocol.specs.PrimaryRows.{draw_epoch, epoch_above, installs, feed_peers, fetches, choose_head, chooses, status_counted, feeds, take_status, with_state, hears_status, take_body, body_beyond, hears_object, body_staged, body_missed, hears_missing, target_in, ack_head, ack_update, acked_below, hears_ack, makes_current, outpromised, hears_peer, hears_member, hears_epoch, hears_in, message_epoch, hears}
use Rattle.xt_protocol.specs.ReplicaRows.{stage_record}
use Rattle.xt_protocol.specs.Folds.{body_of}
use Rattle.xt_protocol.specs.Serving.{issues, issues_unless, write_stands, writes_in, writes_under, writes, next_update_of, current_others, reads, gather_unknown, unacked, resend, wakes_in, wakes_under, wakes}
use Rattle.xt_protocol.specs.Asks.{Served, asks_follow, is_read, read_answer, serves, serves_all, serves_waiting, stays, write_done}
use Rattle.lease_runs.specs.LeaseView.{leases_and_asks, held_ends, IsBare}
use Rattle.lease_runs.proofs.Bare.{map_bare, flat_bare, last_bare, each_last_bare, joined_bare}

pub record Calm (led : Led) : Type 0 where
  pub outs : leases_and_asks led.turned.outs ≡ []
  pub ends : held_ends led.turned.marks ≡ []

plain : (led : Led) → Calm led → IsBare led.turned
plain led p = record { outs = p.outs; ends = p.ends }

either : (b : Bool) {x y : Led} → Calm x → Calm y → Calm (cond b x y)
either true p q = p
either false p q = q

-- A tenure begins.

pub drawn_bare : (place : Place) (learnt : ℕ) (own : FileHead) (members : List NodeId) → Calm (draw_epoch place learnt own members)
unfolding draw_epoch
drawn_bare place learnt own members =
    either (nat_lt (epoch_above place learnt own).number COUNTS)
    (record { outs = map_bare (λ to. message place.node to (payload.Gather place.file (epoch_above place learnt own))) members (λ to. refl); ends = refl })
    (record { outs = refl; ends = refl })

installs_bare : (g : Ground) (learnt : ℕ) (t : Tenure) (chosen : FileHead) → Calm (installs g learnt t chosen)
installs_bare g learnt t chosen =
    record { outs = each_last_bare g.place t.epoch (feed_peers g (target_of g.own t.epoch chosen) t.peers); ends = refl }

fetches_bare : (g : Ground) (learnt : ℕ) (t : Tenure) (chosen : FileHead) (source : NodeId) (wanted : List ObjectVersion)
    → Calm (fetches g learnt t chosen source wanted)
fetches_bare g learnt t chosen source [] = installs_bare g learnt t chosen
fetches_bare g learnt t chosen source (v ∷ later) = record { outs = refl; ends = refl }

chosen_bare : (g : Ground) (learnt : ℕ) (t : Tenure) (best : NodeId × FileHead) → Calm (choose_head g learnt t best)
chosen_bare g learnt t best =
    either (best.0.0 == g.place.node.0) (installs_bare g learnt t best.1) (fetches_bare g learnt t best.1 best.0 _)

chooses_bare : (g : Ground) (learnt : ℕ) (t : Tenure) (reports : List (NodeId × FileHead)) → Calm (chooses g learnt t reports)
chooses_bare g learnt t [] = record { outs = refl; ends = refl }
chooses_bare g learnt t (first ∷ others) = chosen_bare g learnt t _

-- Statuses.

counted_bare : (g : Ground) (learnt : ℕ) (t : Tenure) → Calm (status_counted g learnt t)
counted_bare g learnt t =
    either (nat_le (majority_among t.peers) (statuses_counted t.peers)) (chooses_bare g learnt t (reports_of t.peers)) (record { outs = refl; ends = refl })

feeds_bare : (g : Ground) (learnt : ℕ) (t : Tenure) (node : NodeId) (target : FileHead) (known : List ObjectVersion)
    → Calm (feeds g learnt t node target known)
feeds_bare g learnt t node target known = record { outs = last_bare g.place.node node g.place.file t.epoch (fed g.body target known); ends = refl }

told_bare : (g : Ground) (learnt : ℕ) (t : Tenure) (p : Progress) (from : NodeId) (head : FileHead) → Calm (take_status g learnt t p from head)
told_bare g learnt t progress.Gathering from head = counted_bare g learnt (with_state t from (peer.Reported head))
told_bare g learnt t (progress.Fetching chosen source asked later) from head = record { outs = refl; ends = refl }
told_bare g learnt t (progress.Installing chosen acked) from head = feeds_bare g learnt t from (target_of g.own t.epoch chosen) (known_of_report head)
told_bare g learnt t (progress.Active committed issued) from head = feeds_bare g learnt t from g.own (known_of_report head)

status_bare : (g : Ground) (learnt : ℕ) (t : Tenure) (from : NodeId) (state : PeerState) (head : FileHead) → Calm (hears_status g learnt t from state head)
status_bare g learnt t from state head = either (is_unknown state) (told_bare g learnt t t.progress from head) (record { outs = refl; ends = refl })

-- Fetching and feeding.

fetched_bare : (g : Ground) (learnt : ℕ) (t : Tenure) (chosen : FileHead) (source : NodeId) (later : List ObjectVersion) (object : ℕ) (version : Stamp)
    (bytes : List ℕ) → Calm (take_body g learnt t chosen source later object version bytes)
fetched_bare g learnt t chosen source later object version bytes =
    let p = fetches_bare (record g { body = body_beyond g.place.file (stage_record g.place.file g.held object version bytes) g.body }) learnt t chosen source later in
    record { outs = p.outs; ends = p.ends }

object_bare : (g : Ground) (learnt : ℕ) (t : Tenure) (p : Progress) (from : NodeId) (object : ℕ) (version : Stamp) (bytes : List ℕ)
    → Calm (hears_object g learnt t p from object version bytes)
object_bare g learnt t (progress.Fetching chosen source asked later) from object version bytes =
    either (from.0 == source.0 && is_version asked (body_of object version)) (fetched_bare g learnt t chosen source later object version bytes)
    (record { outs = refl; ends = refl })
object_bare g learnt t _ from object version bytes = record { outs = refl; ends = refl }

staged_bare : (g : Ground) (learnt : ℕ) (t : Tenure) (target : Option FileHead) (from : NodeId) (state : PeerState) (v : ObjectVersion)
    → Calm (body_staged g learnt t target from state v)
staged_bare g learnt t (Some target) from (peer.Feeding known object version body) v = feeds_bare g learnt t from target _
staged_bare g learnt t (Some target) from (peer.Heading known head) v = feeds_bare g learnt t from target _
staged_bare g learnt t _ from _ v = record { outs = refl; ends = refl }

missed_bare : (g : Ground) (learnt : ℕ) (t : Tenure) (target : Option FileHead) (from : NodeId) (state : PeerState) (v : ObjectVersion)
    → Calm (body_missed g learnt t target from state v)
missed_bare g learnt t (Some target) from (peer.Heading known head) v = feeds_bare g learnt t from target _
missed_bare g learnt t _ from _ v = record { outs = refl; ends = refl }

missing_bare : (g : Ground) (learnt : ℕ) (t : Tenure) (p : Progress) (from : NodeId) (state : PeerState) (v : ObjectVersion)
    → Calm (hears_missing g learnt t p from state v)
missing_bare g learnt t (progress.Fetching chosen source asked later) from state v =
    either (from.0 == source.0) (drawn_bare g.place learnt g.own (nodes_of t.peers)) (record { outs = refl; ends = refl })
missing_bare g learnt t p from state v = missed_bare g learnt t (target_in g.own t.epoch p) from state v

-- Acknowledgements.

head_acked_bare : (g : Ground) (learnt : ℕ) (t : Tenure) (chosen : FileHead) (acked : List NodeId) → Calm (ack_head g learnt t chosen acked)
head_acked_bare g learnt t chosen acked = either (carries g.place t.peers acked) (record { outs = refl; ends = refl }) (record { outs = refl; ends = refl })

update_acked_bare : (g : Ground) (learnt : ℕ) (t : Tenure) (head : FileHead) (update : Update) (acked : List NodeId)
    → Calm (ack_update g learnt t head update acked)
update_acked_bare g learnt t head update acked =
    either (carries g.place t.peers acked) (record { outs = refl; ends = refl }) (record { outs = refl; ends = refl })

acked_below_bare : (g : Ground) (learnt : ℕ) (t : Tenure) (head : FileHead) (from : NodeId) (stamp : Stamp) (newly : Bool) (issued : Option IssuedUpdate)
    → Calm (acked_below g learnt t head from stamp newly issued)
acked_below_bare g learnt t head from stamp newly None = record { outs = refl; ends = refl }
acked_below_bare g learnt t head from stamp newly (Some issued) =
    either (not (is_below stamp issued.update.stamp)) (update_acked_bare g learnt t head issued.update (with_node issued.acked from))
    (either newly (record { outs = refl; ends = refl }) (record { outs = refl; ends = refl }))

ack_bare : (g : Ground) (learnt : ℕ) (t : Tenure) (p : Progress) (from : NodeId) (newly : Bool) (stamp : Stamp) → Calm (hears_ack g learnt t p from newly stamp)
ack_bare g learnt t (progress.Installing chosen acked) from newly stamp =
    either newly (head_acked_bare g learnt (with_state t from peer.Current) chosen (with_node acked from)) (record { outs = refl; ends = refl })
ack_bare g learnt t (progress.Active head issued) from newly stamp = acked_below_bare g learnt _ head from stamp newly issued
ack_bare g learnt t _ from newly stamp = record { outs = refl; ends = refl }

outpromised_bare : (g : Ground) (learnt : ℕ) (t : Tenure) (promised : Epoch) → Calm (outpromised g learnt t promised)
outpromised_bare g learnt t promised =
    either (is_earlier t.epoch promised) (drawn_bare g.place (max learnt promised.number) g.own (nodes_of t.peers)) (record { outs = refl; ends = refl })

-- A message to a primary.

peer_bare : (g : Ground) (learnt : ℕ) (t : Tenure) (from : NodeId) (state : PeerState) (content : Payload) → Calm (hears_peer g learnt t from state content)
peer_bare g learnt t from state (payload.Status file epoch head) = status_bare g learnt t from state head
peer_bare g learnt t from state (payload.Object file epoch object version bytes) = object_bare g learnt t t.progress from object version bytes
peer_bare g learnt t from state (payload.Staged file epoch object version) = staged_bare g learnt t (target_in g.own t.epoch t.progress) from state _
peer_bare g learnt t from state (payload.Missing file epoch object version) = missing_bare g learnt t t.progress from state _
peer_bare g learnt t from state (payload.Ack file stamp) = ack_bare g learnt t t.progress from (makes_current g.place from state stamp) stamp
peer_bare g learnt t from state (payload.Behind file epoch stamp) = record { outs = refl; ends = refl }
peer_bare g learnt t from state (payload.Refused file epoch promised) = outpromised_bare g learnt t promised
peer_bare g learnt t from state _ = record { outs = refl; ends = refl }

member_bare : (g : Ground) (learnt : ℕ) (t : Tenure) (from : NodeId) (state : Option PeerState) (content : Payload)
    → Calm (hears_member g learnt t from state content)
member_bare g learnt t from None content = record { outs = refl; ends = refl }
member_bare g learnt t from (Some state) content = peer_bare g learnt t from state content

epoch_bare : (g : Ground) (learnt : ℕ) (t : Tenure) (from : NodeId) (told : Option Epoch) (content : Payload) → Calm (hears_epoch g learnt t from told content)
epoch_bare g learnt t from None content = record { outs = refl; ends = refl }
epoch_bare g learnt t from (Some epoch) content =
    either (is_epoch epoch t.epoch) (member_bare g learnt t from (peer_in t.peers from) content) (record { outs = refl; ends = refl })

in_bare : (g : Ground) (learnt : ℕ) (t : Option Tenure) (from : NodeId) (content : Payload) → Calm (hears_in g learnt t from content)
in_bare g learnt None from content = record { outs = refl; ends = refl }
in_bare g learnt (Some t) from content = epoch_bare g learnt t from (message_epoch content) content

pub hears_bare : (g : Ground) (p : PrimaryState) (from : NodeId) (content : Payload) → Calm (hears g p from content)
unfolding hears
hears_bare g p from content = in_bare g p.learnt p.tenure from content

-- Serving.

issues_bare : (g : Ground) (learnt : ℕ) (t : Tenure) (head : FileHead) (u : Option Update) → Calm (issues g learnt t head u)
issues_bare g learnt t head None = record { outs = refl; ends = refl }
issues_bare g learnt t head (Some update) =
    record {
      outs = map_bare (λ to. message g.place.node to (payload.Update g.place.file update)) (g.place.node ∷ current_others g.place t.peers) (λ to. refl);
      ends = refl;
    }

abbrev CalmIfAny : Option Led → Type 0
CalmIfAny None = Unit {0}
CalmIfAny (Some led) = Calm led

unless_bare : (g : Ground) (learnt : ℕ) (t : Tenure) (head : FileHead) (issued : Option IssuedUpdate) (id : OpId) (epoch : ℕ) (asked : Op)
    → CalmIfAny (issues_unless g learnt t head issued id epoch asked)
unless_bare g learnt t head (Some issued) id epoch asked = record {}
unless_bare g learnt t head None id epoch asked = issues_bare g learnt t head (next_update_of g t head id epoch asked)

stands_bare : (g : Ground) (learnt : ℕ) (t : Tenure) (head : FileHead) (issued : Option IssuedUpdate) (id : OpId) (epoch : ℕ) (asked : Op) (how : WriteStanding)
    → CalmIfAny (write_stands g learnt t head issued id epoch asked how)
stands_bare g learnt t head issued id epoch asked (repeated count) = record { outs = refl; ends = refl }
stands_bare g learnt t head issued id epoch asked older = record { outs = refl; ends = refl }
stands_bare g learnt t head issued id epoch asked (turned_away why) = record { outs = refl; ends = refl }
stands_bare g learnt t head issued id epoch asked fresh = unless_bare g learnt t head issued id epoch asked

writes_in_bare : (g : Ground) (learnt : ℕ) (t : Tenure) (p : Progress) (id : OpId) (epoch : ℕ) (asked : Op) → CalmIfAny (writes_in g learnt t p id epoch asked)
writes_in_bare g learnt t (progress.Active head issued) id epoch asked = stands_bare g learnt t head issued id epoch asked _
writes_in_bare g learnt t progress.Gathering id epoch asked = record {}
writes_in_bare g learnt t (progress.Fetching chosen source wanted later) id epoch asked = record {}
writes_in_bare g learnt t (progress.Installing chosen acked) id epoch asked = record {}

writes_under_bare : (g : Ground) (learnt : ℕ) (t : Option Tenure) (id : OpId) (epoch : ℕ) (asked : Op) → CalmIfAny (writes_under g learnt t id epoch asked)
writes_under_bare g learnt None id epoch asked = record {}
writes_under_bare g learnt (Some t) id epoch asked = writes_in_bare g learnt t t.progress id epoch asked

writes_bare : (g : Ground) (p : PrimaryState) (id : OpId) (epoch : ℕ) (asked : Op) → CalmIfAny (writes g p id epoch asked)
unfolding writes
writes_bare g p id epoch asked = writes_under_bare g p.learnt p.tenure id epoch asked

pub record CalmServed (s : Served) : Type 0 where
  pub outs : leases_and_asks s.turned.outs ≡ []
  pub ends : held_ends s.turned.marks ≡ []

joins : (s : Served) (t : Turned) (after : Served) → CalmServed s → IsBare t → after.turned ≡ joined s.turned t → CalmServed after
joins s t after p q is =
    let j = joined_bare s.turned t (record { outs = p.outs; ends = p.ends }) q in
    record { outs = ap (λ (u : Turned). leases_and_asks u.outs) is ∙ j.outs; ends = ap (λ (u : Turned). held_ends u.marks) is ∙ j.ends }

either_served : (b : Bool) {x y : Served} → CalmServed x → CalmServed y → CalmServed (cond b x y)
either_served true p q = p
either_served false p q = q

read_bare : (g : Ground) (id : OpId) (answer : Option Reply) → IsBare (read_answer g id answer)
read_bare g id (Some (reply.Ok count size bytes)) = record { outs = refl; ends = refl }
read_bare g id _ = record { outs = refl; ends = refl }

done_bare : (s : Served) (ask : WaitingAsk) (led : Option Led) (left : Asks) → CalmServed s → CalmIfAny led → CalmServed (write_done s ask led left)
done_bare s ask None left p q = record { outs = p.outs; ends = p.ends }
done_bare s ask (Some led) left p q = joins s led.turned _ p (plain led q) refl

serves_bare : (g : Ground) (s : Served) (ask : WaitingAsk) (left : Asks) → CalmServed s → CalmServed (serves g s ask left)
serves_bare g s ask left p =
    either_served (is_read ask.op) (joins s (read_answer g ask.id (reads g s.primary ask.op)) _ p (read_bare g ask.id (reads g s.primary ask.op)) refl)
    (done_bare s ask (writes g s.primary ask.id ask.epoch ask.op) left p (writes_bare g s.primary ask.id ask.epoch ask.op))

waiting_bare : (g : Ground) (s : Served) (ask : WaitingAsk) → CalmServed s → CalmServed (serves_waiting g s ask)
waiting_bare g s ask p =
    either_served (not (is_read ask.op) && is_some s.asks.issued) (record { outs = p.outs; ends = p.ends }) (serves_bare g s ask (stays s.asks ask) p)

fold_bare : (g : Ground) (s : Served) (waiting : List WaitingAsk) → CalmServed s → CalmServed (fold (serves_waiting g) s waiting)
fold_bare g s [] p = p
fold_bare g s (ask ∷ asks) p = fold_bare g (serves_waiting g s ask) asks (waiting_bare g s ask p)

pub all_bare : (g : Ground) (p : PrimaryState) (waiting : List WaitingAsk) → CalmServed (serves_all g p waiting)
unfolding serves_all
all_bare g p waiting = fold_bare g _ waiting (record { outs = refl; ends = refl })

pub served_bare : (g : Ground) (s : Served) (ask : WaitingAsk) (left : Asks) → CalmServed s → CalmServed (serves g s ask left)
served_bare = serves_bare

pub follow_bare : (g : Ground) (before : Option Tenure) (asks : Asks) (led : Led) → Calm led → CalmServed (asks_follow g before asks led)
follow_bare g before asks led p =
    either_served (is_ready led.primary.tenure && not (is_ready before))
    (let q = all_bare g led.primary asks.waiting in
    let j = joined_bare led.turned (serves_all g led.primary asks.waiting).turned (plain led p) (record { outs = q.outs; ends = q.ends }) in
    record { outs = j.outs; ends = j.ends }) (record { outs = p.outs; ends = p.ends })

-- Wakes.

unknown_bare : (place : Place) (epoch : Epoch) (node : NodeId) (state : PeerState) → leases_and_asks (if_any place.node node (gather_unknown place epoch node state)) ≡ []
unknown_bare place epoch node peer.Unknown = refl
unknown_bare place epoch node (peer.Reported head) = refl
unknown_bare place epoch node (peer.Feeding known object version body) = refl
unknown_bare place epoch node (peer.Heading known head) = refl
unknown_bare place epoch node peer.Current = refl

unacked_bare : (place : Place) (node : NodeId) (issued : Option IssuedUpdate) → leases_and_asks (if_any place.node node (unacked place.file node issued)) ≡ []
unacked_bare place node None = refl
unacked_bare place node (Some issued) = one_of (has_node issued.acked node.0)
  where
    one_of : (b : Bool) → leases_and_asks (if_any place.node node (cond b None (Some (payload.Update place.file issued.update)))) ≡ []
    one_of true = refl
    one_of false = refl

again_bare : (place : Place) (epoch : Epoch) (issued : Option IssuedUpdate) (node : NodeId) (state : PeerState)
    → leases_and_asks (if_any place.node node (resend place epoch issued node state)) ≡ []
again_bare place epoch issued node peer.Unknown = refl
again_bare place epoch issued node (peer.Reported head) = refl
again_bare place epoch issued node (peer.Feeding known object version body) = refl
again_bare place epoch issued node (peer.Heading known head) = refl
again_bare place epoch issued node peer.Current = unacked_bare place node issued

wakes_in_bare : (place : Place) (t : Tenure) (p : Progress) → IsBare (wakes_in place t p)
wakes_in_bare place t progress.Gathering =
    record { outs = flat_bare (λ p. if_any place.node p.node (gather_unknown place t.epoch p.node p.state)) t.peers (λ p. unknown_bare place t.epoch p.node p.state); ends = refl }
wakes_in_bare place t (progress.Fetching chosen source asked later) = record { outs = refl; ends = refl }
wakes_in_bare place t (progress.Installing chosen acked) =
    record { outs = flat_bare (λ p. if_any place.node p.node (resend place t.epoch None p.node p.state)) t.peers (λ p. again_bare place t.epoch None p.node p.state); ends = refl }
wakes_in_bare place t (progress.Active head issued) =
    record { outs = flat_bare (λ p. if_any place.node p.node (resend place t.epoch issued p.node p.state)) t.peers (λ p. again_bare place t.epoch issued p.node p.state); ends = refl }

wakes_under_bare : (place : Place) (t : Option Tenure) → IsBare (wakes_under place t)
wakes_under_bare place None = record { outs = refl; ends = refl }
wakes_under_bare place (Some t) = wakes_in_bare place t t.progress

pub wakes_bare : (place : Place) (p : PrimaryState) → IsBare (wakes place p)
unfolding wakes
wakes_bare place p = wakes_under_bare place p.tenure
