-- The messages of a step of a file have the OSD as their sender, and concern that file: row by row.
use Rattle.std.proofs.Common.{◌≡◌, ℕ, inl, inr, List, [], ◌∷◌, ◌++◌, map, refl, ap, sym, subst, Option, Some, None, Bool, true, false}
use Rattle.std.specs.Prelude.{cond, flat_map, filter, not, is_some, ◌&&◌, ◌==◌, ◌+◌, max, nat_lt, nat_le, if◌then◌else◌}
use Rattle.std.specs.List.{fold}
use Rattle.xt_base.specs.MemberList.{has_node}
use Rattle.xt_base.specs.declared.ids.NodeId.{NodeId}
use Rattle.xt_base.specs.declared.ids.OpId.{OpId}
use Rattle.xt_base.specs.declared.ids.FileId.{FileId}
use Rattle.xt_base.specs.declared.ids.Ballot.{Ballot}
use Rattle.xt_base.specs.declared.ids.Boot.{Boot}
use Rattle.xt_base.specs.declared.ids.Epoch.{Epoch}
use Rattle.xt_base.specs.declared.ids.Stamp.{Stamp}
use Rattle.xt_base.specs.declared.ids.Lease.{Lease}
use Rattle.xt_messages.specs.declared.file.Capability.{Capability}
use Rattle.xt_messages.specs.declared.file.FileHead.{FileHead}
use Rattle.xt_messages.specs.declared.file.Kind.{Kind}
use Rattle.xt_messages.specs.declared.file.Kind.TheVariants as kind
use Rattle.xt_messages.specs.declared.file.Location.{Location}
use Rattle.xt_messages.specs.declared.file.ObjectVersion.{ObjectVersion}
use Rattle.xt_messages.specs.declared.file.Op.{Op}
use Rattle.xt_messages.specs.declared.file.Update.{Update}
use Rattle.xt_messages.specs.declared.message.Msg.{Msg}
use Rattle.xt_messages.specs.declared.message.Payload.{Payload}
use Rattle.xt_messages.specs.declared.message.Payload.TheVariants as payload
use Rattle.xt_messages.specs.declared.record.FileRow.{FileRow}
use Rattle.xt_messages.specs.declared.record.Record.{Record}
use Rattle.xt_messages.specs.declared.reply.Reply.{Reply}
use Rattle.xt_messages.specs.declared.reply.Reply.TheVariants as reply
use Rattle.xt_base.specs.declared.TheConstants.{COUNTS, OBJECTS}
use Rattle.xt_protocol.specs.Folds.{body_of}
use Rattle.xt_protocol.specs.Heads.{head_after}
use Rattle.xt_protocol.specs.Stamps.{is_epoch, is_earlier, is_below, is_version, has_version}
use Rattle.xt_protocol.specs.Register.{ReadAnswer, promise, read_refused, WriteAnswer, accepted, write_refused, other_boot, on_read, on_write}
use Rattle.xt_protocol.specs.LeaseRows.{LeaseState, Proposer, Held, free, asking, writing, held, LeaseNews, sends_write, holds, finds, ends, on_answer, can_ask, round_starts, is_renewal_due, lease_expired}
use Rattle.xt_protocol.specs.LeaseRows as lease
use Rattle.lease_safety.specs.State.{Has}
use Rattle.xt_protocol.specs.declared.states.Acted.{Acted}
use Rattle.xt_protocol.specs.declared.states.Asks.{Asks}
use Rattle.xt_protocol.specs.declared.states.IssuedAsk.{IssuedAsk}
use Rattle.xt_protocol.specs.declared.states.IssuedUpdate.{IssuedUpdate}
use Rattle.xt_protocol.specs.declared.states.Peer.{Peer}
use Rattle.xt_protocol.specs.declared.states.PeerState.{PeerState}
use Rattle.xt_protocol.specs.declared.states.PeerState.TheVariants as peer
use Rattle.xt_protocol.specs.declared.states.Place.{Place}
use Rattle.xt_protocol.specs.declared.states.PrimaryState.{PrimaryState}
use Rattle.xt_protocol.specs.declared.states.Progress.{Progress}
use Rattle.xt_protocol.specs.declared.states.Progress.TheVariants as progress
use Rattle.xt_protocol.specs.declared.states.Tenure.{Tenure}
use Rattle.xt_protocol.specs.declared.states.WaitingAsk.{WaitingAsk}
use Rattle.xt_protocol.specs.Turns.{quiet, keeps, message, reply_to}
use Rattle.xt_protocol.specs.Primaries.{Ground, Led, carries, fed, if_any, is_active, is_ready, is_unknown, known_of_report, last_sent, last_to_each, have_in, majority_among, nodes_of, peer_in, reports_of, statuses_counted, target_of, with_node}
use Rattle.xt_protocol.specs.PrimaryRows.{draw_epoch, epoch_above, installs, feed_peers, fetches, choose_head, chooses, status_counted, feeds, take_status, with_state, hears_status, take_body, body_beyond, hears_object, body_staged, body_missed, hears_missing, target_in, ack_head, ack_update, acked_below, hears_ack, makes_current, outpromised, hears_peer, hears_member, hears_epoch, hears_in, message_epoch, hears}
use Rattle.xt_protocol.specs.ReplicaRows.{kept_after, gathered, fetched_from, staged, headed, updated, as_promised, head_offered, head_taken, head_fits, first_missing, update_offered, stage_record}
use Rattle.xt_protocol.specs.Writes.{WriteStanding, repeated, older, turned_away, fresh, standing}
use Rattle.xt_protocol.specs.Serving.{reads, issues, issues_unless, write_stands, writes_in, writes_under, writes, next_update_of, current_others, gather_unknown, unacked, resend, wakes_in, wakes_under, wakes}
use Rattle.xt_protocol.specs.Asks.{Served, is_read, read_answer, write_done, serves, serves_waiting, serves_all, stays, waits, no_asks, asks_follow, asked_already, tells_each, tells_untold}
use Rattle.xt_protocol.specs.FileStates.{FileState, Site, FileStep, steps_to, and_then, members_of, ground_of}
use Rattle.xt_protocol.specs.Overdue.{is_due, newly_due, deadlines_under, lease_became, expired}
use Rattle.xt_protocol.specs.FileLeases.{read_comes, write_comes, answer_comes, answer_to_read, answers_to_write, end_after_answer, led_on, lease_news}
use Rattle.xt_protocol.specs.AskRows.{elsewhere, ask_without_lease, ask_under, ask_rows, ask_let_in, refusal_of, handle_ask, waiting_ask, view_record}
use Rattle.xt_protocol.specs.StripedRows.{handle_striped}
use Rattle.xt_protocol.specs.FileSteps.{ask_comes, primary_hears, message_comes, renews, step_of_file, wakes_under_lease, wake_of_file}
use Rattle.xt_protocol.specs.OsdSteps.{file_concerned}
use Rattle.osd_invariants.proofs.Kept.{wake_keeps}
use Rattle.osd_invariants.proofs.StripedAsks.{striped_outcome}
use Rattle.lease_runs.specs.OsdView.{wake_step}
use Rattle.lease_runs.proofs.LeaseSteps.{expired_keeps}
use Rattle.world_safety.specs.Senders.{IsFrom, AreFrom}

-- ---- lists

pub one_of : (node : NodeId) (file : FileId) (ms : List Msg) (m : Msg) → AreFrom node file ms → Has m ms → IsFrom node file m
one_of node file [] m are h = absurd h
one_of node file (x ∷ ms) m are (inl e) = subst (IsFrom node file) (sym e) are.0
one_of node file (x ∷ ms) m are (inr h) = one_of node file ms m are.1 h

module _ (node : NodeId) (file : FileId) where
  both : (xs ys : List Msg) → AreFrom node file xs → AreFrom node file ys → AreFrom node file (xs ++ ys)
  both [] ys p q = q
  both (x ∷ xs) ys p q = (p.0, both xs ys p.1 q)

  mapped : {X : Type 0} (f : X → Msg) (xs : List X) → ((x : X) → IsFrom node file (f x)) → AreFrom node file (map f xs)
  mapped f [] each = tt
  mapped f (x ∷ xs) each = (each x, mapped f xs each)

  flat_mapped : {X : Type 0} (f : X → List Msg) (xs : List X) → ((x : X) → AreFrom node file (f x)) → AreFrom node file (flat_map f xs)
  flat_mapped f [] each = tt
  flat_mapped f (x ∷ xs) each = both (f x) (flat_map f xs) (each x) (flat_mapped f xs each)

  -- what is sent to a peer
  last_from : (to : NodeId) (epoch : Epoch) (state : PeerState) → AreFrom node file (if_any node to (last_sent file epoch state))
  last_from to epoch peer.Unknown = tt
  last_from to epoch (peer.Reported head) = tt
  last_from to epoch (peer.Feeding known object version body) = ((refl, refl), tt)
  last_from to epoch (peer.Heading known head) = ((refl, refl), tt)
  last_from to epoch peer.Current = tt

each_last_from : (place : Place) (epoch : Epoch) (peers : List Peer) → AreFrom place.node place.file (last_to_each place epoch peers)
each_last_from place epoch peers =
    flat_mapped place.node place.file (λ p. if_any place.node p.node (last_sent place.file epoch p.state)) peers (λ p. last_from place.node place.file p.node epoch p.state)

-- ---- rows of a primary

-- what a row of a primary sends
record LedFrom (node : NodeId) (file : FileId) (led : Led) : Type 0 where
  pub outs : AreFrom node file led.turned.outs

abbrev LedFromIfAny : NodeId → FileId → Option Led → Type 0
LedFromIfAny node file None = Unit {0}
LedFromIfAny node file (Some led) = LedFrom node file led

either : {node : NodeId} {file : FileId} (b : Bool) {x y : Led} → LedFrom node file x → LedFrom node file y → LedFrom node file (cond b x y)
either true p q = p
either false p q = q

drawn_from : (place : Place) (learnt : ℕ) (own : FileHead) (members : List NodeId) → LedFrom place.node place.file (draw_epoch place learnt own members)
unfolding draw_epoch
drawn_from place learnt own members =
    either (nat_lt (epoch_above place learnt own).number COUNTS)
    (record { outs = mapped place.node place.file (λ to. message place.node to (payload.Gather place.file (epoch_above place learnt own))) members (λ to. (refl, refl)) })
    (record { outs = tt })

abbrev From : Ground → Led → Type 0
From g led = LedFrom g.place.node g.place.file led

module _ (g : Ground) (learnt : ℕ) where
  installs_from : (t : Tenure) (chosen : FileHead) → From g (installs g learnt t chosen)
  installs_from t chosen = record { outs = ((refl, refl), each_last_from g.place t.epoch (feed_peers g (target_of g.own t.epoch chosen) t.peers)) }

  fetches_from : (t : Tenure) (chosen : FileHead) (source : NodeId) (wanted : List ObjectVersion) → From g (fetches g learnt t chosen source wanted)
  fetches_from t chosen source [] = installs_from t chosen
  fetches_from t chosen source (v ∷ later) = record { outs = ((refl, refl), tt) }

  chosen_from : (t : Tenure) (best : NodeId × FileHead) → From g (choose_head g learnt t best)
  chosen_from t best = either (best.0.0 == g.place.node.0) (installs_from t best.1) (fetches_from t best.1 best.0 _)

  chooses_from : (t : Tenure) (reports : List (NodeId × FileHead)) → From g (chooses g learnt t reports)
  chooses_from t [] = record { outs = tt }
  chooses_from t (first ∷ others) = chosen_from t _

  counted_from : (t : Tenure) → From g (status_counted g learnt t)
  counted_from t = either (nat_le (majority_among t.peers) (statuses_counted t.peers)) (chooses_from t (reports_of t.peers)) (record { outs = tt })

  feeds_from : (t : Tenure) (node : NodeId) (target : FileHead) (known : List ObjectVersion) → From g (feeds g learnt t node target known)
  feeds_from t node target known = record { outs = last_from g.place.node g.place.file node t.epoch (fed g.body target known) }

  told_from : (t : Tenure) (p : Progress) (from : NodeId) (head : FileHead) → From g (take_status g learnt t p from head)
  told_from t progress.Gathering from head = counted_from (with_state t from (peer.Reported head))
  told_from t (progress.Fetching chosen source asked later) from head = record { outs = tt }
  told_from t (progress.Installing chosen acked) from head = feeds_from t from (target_of g.own t.epoch chosen) (known_of_report head)
  told_from t (progress.Active committed issued) from head = feeds_from t from g.own (known_of_report head)

  status_from : (t : Tenure) (from : NodeId) (state : PeerState) (head : FileHead) → From g (hears_status g learnt t from state head)
  status_from t from state head = either (is_unknown state) (told_from t t.progress from head) (record { outs = tt })

  staged_from : (t : Tenure) (target : Option FileHead) (from : NodeId) (state : PeerState) (v : ObjectVersion) → From g (body_staged g learnt t target from state v)
  staged_from t (Some target) from (peer.Feeding known object version body) v = feeds_from t from target _
  staged_from t (Some target) from (peer.Heading known head) v = feeds_from t from target _
  staged_from t _ from _ v = record { outs = tt }

  missed_from : (t : Tenure) (target : Option FileHead) (from : NodeId) (state : PeerState) (v : ObjectVersion) → From g (body_missed g learnt t target from state v)
  missed_from t (Some target) from (peer.Heading known head) v = feeds_from t from target _
  missed_from t _ from _ v = record { outs = tt }

  missing_from : (t : Tenure) (p : Progress) (from : NodeId) (state : PeerState) (v : ObjectVersion) → From g (hears_missing g learnt t p from state v)
  missing_from t (progress.Fetching chosen source asked later) from state v =
      either (from.0 == source.0) (drawn_from g.place learnt g.own (nodes_of t.peers)) (record { outs = tt })
  missing_from t p from state v = missed_from t (target_in g.own t.epoch p) from state v

  head_acked_from : (t : Tenure) (chosen : FileHead) (acked : List NodeId) → From g (ack_head g learnt t chosen acked)
  head_acked_from t chosen acked = either (carries g.place t.peers acked) (record { outs = tt }) (record { outs = tt })

  update_acked_from : (t : Tenure) (head : FileHead) (update : Update) (acked : List NodeId) → From g (ack_update g learnt t head update acked)
  update_acked_from t head update acked = either (carries g.place t.peers acked) (record { outs = ((refl, refl), tt) }) (record { outs = tt })

  acked_below_from : (t : Tenure) (head : FileHead) (from : NodeId) (stamp : Stamp) (newly : Bool) (issued : Option IssuedUpdate) → From g (acked_below g learnt t head from stamp newly issued)
  acked_below_from t head from stamp newly None = record { outs = tt }
  acked_below_from t head from stamp newly (Some issued) =
      either (not (is_below stamp issued.update.stamp)) (update_acked_from t head issued.update (with_node issued.acked from))
      (either newly (record { outs = ((refl, refl), tt) }) (record { outs = tt }))

  ack_from : (t : Tenure) (p : Progress) (from : NodeId) (newly : Bool) (stamp : Stamp) → From g (hears_ack g learnt t p from newly stamp)
  ack_from t (progress.Installing chosen acked) from newly stamp =
      either newly (head_acked_from (with_state t from peer.Current) chosen (with_node acked from)) (record { outs = tt })
  ack_from t (progress.Active head issued) from newly stamp = acked_below_from (if newly then with_state t from peer.Current else t) head from stamp newly issued
  ack_from t _ from newly stamp = record { outs = tt }

-- body fetched: the head may be fed with this very body
fetched_from_so : (g : Ground) (learnt : ℕ) (t : Tenure) (chosen : FileHead) (source : NodeId) (later : List ObjectVersion) (object : ℕ) (version : Stamp) (bytes : List ℕ)
    → From g (take_body g learnt t chosen source later object version bytes)
fetched_from_so g learnt t chosen source later object version bytes =
    let p = fetches_from (record g { body = body_beyond g.place.file (stage_record g.place.file g.held object version bytes) g.body }) learnt t chosen source later in
    record { outs = p.outs }

object_from : (g : Ground) (learnt : ℕ) (t : Tenure) (p : Progress) (from : NodeId) (object : ℕ) (version : Stamp) (bytes : List ℕ) → From g (hears_object g learnt t p from object version bytes)
object_from g learnt t (progress.Fetching chosen source asked later) from object version bytes =
    either (from.0 == source.0 && is_version asked (body_of object version)) (fetched_from_so g learnt t chosen source later object version bytes) (record { outs = tt })
object_from g learnt t _ from object version bytes = record { outs = tt }

outpromised_from : (g : Ground) (learnt : ℕ) (t : Tenure) (promised : Epoch) → From g (outpromised g learnt t promised)
outpromised_from g learnt t promised = either (is_earlier t.epoch promised) (drawn_from g.place (max learnt promised.number) g.own (nodes_of t.peers)) (record { outs = tt })

module _ (g : Ground) (learnt : ℕ) where
  peer_from : (t : Tenure) (from : NodeId) (state : PeerState) (content : Payload) → From g (hears_peer g learnt t from state content)
  peer_from t from state (payload.Status file epoch head) = status_from g learnt t from state head
  peer_from t from state (payload.Object file epoch object version bytes) = object_from g learnt t t.progress from object version bytes
  peer_from t from state (payload.Staged file epoch object version) = staged_from g learnt t (target_in g.own t.epoch t.progress) from state _
  peer_from t from state (payload.Missing file epoch object version) = missing_from g learnt t t.progress from state _
  peer_from t from state (payload.Ack file stamp) = ack_from g learnt t t.progress from (makes_current g.place from state stamp) stamp
  peer_from t from state (payload.Behind file epoch stamp) = record { outs = ((refl, refl), tt) }
  peer_from t from state (payload.Refused file epoch promised) = outpromised_from g learnt t promised
  peer_from t from state _ = record { outs = tt }

  member_from : (t : Tenure) (from : NodeId) (state : Option PeerState) (content : Payload) → From g (hears_member g learnt t from state content)
  member_from t from None content = record { outs = tt }
  member_from t from (Some state) content = peer_from t from state content

  epoch_from : (t : Tenure) (from : NodeId) (told : Option Epoch) (content : Payload) → From g (hears_epoch g learnt t from told content)
  epoch_from t from None content = record { outs = tt }
  epoch_from t from (Some epoch) content = either (is_epoch epoch t.epoch) (member_from t from (peer_in t.peers from) content) (record { outs = tt })

  in_from : (t : Option Tenure) (from : NodeId) (content : Payload) → From g (hears_in g learnt t from content)
  in_from None from content = record { outs = tt }
  in_from (Some t) from content = epoch_from t from (message_epoch content) content

  -- ---- writes

  issues_from : (t : Tenure) (head : FileHead) (u : Option Update) → From g (issues g learnt t head u)
  issues_from t head None = record { outs = tt }
  issues_from t head (Some update) =
      record { outs = mapped g.place.node g.place.file (λ to. message g.place.node to (payload.Update g.place.file update)) (g.place.node ∷ current_others g.place t.peers) (λ to. (refl, refl)) }

  unless_from : (t : Tenure) (head : FileHead) (issued : Option IssuedUpdate) (id : OpId) (epoch : ℕ) (asked : Op) → LedFromIfAny g.place.node g.place.file (issues_unless g learnt t head issued id epoch asked)
  unless_from t head (Some issued) id epoch asked = tt
  unless_from t head None id epoch asked = issues_from t head (next_update_of g t head id epoch asked)

  stands_from : (t : Tenure) (head : FileHead) (issued : Option IssuedUpdate) (id : OpId) (epoch : ℕ) (asked : Op) (how : WriteStanding) → LedFromIfAny g.place.node g.place.file (write_stands g learnt t head issued id epoch asked how)
  stands_from t head issued id epoch asked (repeated count) = record { outs = ((refl, refl), tt) }
  stands_from t head issued id epoch asked older = record { outs = tt }
  stands_from t head issued id epoch asked (turned_away why) = record { outs = ((refl, refl), tt) }
  stands_from t head issued id epoch asked fresh = unless_from t head issued id epoch asked

  writes_in_from : (t : Tenure) (p : Progress) (id : OpId) (epoch : ℕ) (asked : Op) → LedFromIfAny g.place.node g.place.file (writes_in g learnt t p id epoch asked)
  writes_in_from t (progress.Active head issued) id epoch asked = stands_from t head issued id epoch asked (standing OBJECTS g.place.stripe head id epoch asked)
  writes_in_from t progress.Gathering id epoch asked = tt
  writes_in_from t (progress.Fetching chosen source wanted later) id epoch asked = tt
  writes_in_from t (progress.Installing chosen acked) id epoch asked = tt

  writes_under_from : (t : Option Tenure) (id : OpId) (epoch : ℕ) (asked : Op) → LedFromIfAny g.place.node g.place.file (writes_under g learnt t id epoch asked)
  writes_under_from None id epoch asked = tt
  writes_under_from (Some t) id epoch asked = writes_in_from t t.progress id epoch asked

hears_from : (g : Ground) (p : PrimaryState) (from : NodeId) (content : Payload) → From g (hears g p from content)
unfolding hears
hears_from g p from content = in_from g p.learnt p.tenure from content

writes_from : (g : Ground) (p : PrimaryState) (id : OpId) (epoch : ℕ) (asked : Op) → LedFromIfAny g.place.node g.place.file (writes g p id epoch asked)
unfolding writes
writes_from g p id epoch asked = writes_under_from g p.learnt p.tenure id epoch asked

-- ---- Wakes

module _ (place : Place) where
  abbrev Sent : List Msg → Type 0
  Sent ms = AreFrom place.node place.file ms

  unknown_from : (epoch : Epoch) (node : NodeId) (state : PeerState) → Sent (if_any place.node node (gather_unknown place epoch node state))
  unknown_from epoch node peer.Unknown = ((refl, refl), tt)
  unknown_from epoch node (peer.Reported head) = tt
  unknown_from epoch node (peer.Feeding known object version body) = tt
  unknown_from epoch node (peer.Heading known head) = tt
  unknown_from epoch node peer.Current = tt

  unacked_from : (node : NodeId) (issued : Option IssuedUpdate) → Sent (if_any place.node node (unacked place.file node issued))
  unacked_from node None = tt
  unacked_from node (Some issued) = at (has_node issued.acked node.0)
    where
      at : (b : Bool) → AreFrom place.node place.file (if_any place.node node (cond b None (Some (payload.Update place.file issued.update))))
      at true = tt
      at false = ((refl, refl), tt)

  again_from : (epoch : Epoch) (issued : Option IssuedUpdate) (node : NodeId) (state : PeerState) → Sent (if_any place.node node (resend place epoch issued node state))
  again_from epoch issued node peer.Unknown = ((refl, refl), tt)
  again_from epoch issued node (peer.Reported head) = tt
  again_from epoch issued node (peer.Feeding known object version body) = ((refl, refl), tt)
  again_from epoch issued node (peer.Heading known head) = ((refl, refl), tt)
  again_from epoch issued node peer.Current = unacked_from node issued

  wakes_in_from : (t : Tenure) (p : Progress) → Sent (wakes_in place t p).outs
  wakes_in_from t progress.Gathering =
      flat_mapped place.node place.file (λ p. if_any place.node p.node (gather_unknown place t.epoch p.node p.state)) t.peers (λ p. unknown_from t.epoch p.node p.state)
  wakes_in_from t (progress.Fetching chosen source asked later) = ((refl, refl), tt)
  wakes_in_from t (progress.Installing chosen acked) =
      flat_mapped place.node place.file (λ p. if_any place.node p.node (resend place t.epoch None p.node p.state)) t.peers (λ p. again_from t.epoch None p.node p.state)
  wakes_in_from t (progress.Active head issued) =
      flat_mapped place.node place.file (λ p. if_any place.node p.node (resend place t.epoch issued p.node p.state)) t.peers (λ p. again_from t.epoch issued p.node p.state)

  wakes_under_from : (t : Option Tenure) → Sent (wakes_under place t).outs
  wakes_under_from None = tt
  wakes_under_from (Some t) = wakes_in_from t t.progress

wakes_from : (place : Place) (p : PrimaryState) → AreFrom place.node place.file (wakes place p).outs
unfolding wakes
wakes_from place p = wakes_under_from place p.tenure

-- ---- serving

record ServedFrom (node : NodeId) (file : FileId) (s : Served) : Type 0 where
  pub outs : AreFrom node file s.turned.outs

either_served : {node : NodeId} {file : FileId} (b : Bool) {x y : Served} → ServedFrom node file x → ServedFrom node file y → ServedFrom node file (cond b x y)
either_served true p q = p
either_served false p q = q

abbrev Serves : Ground → Served → Type 0
Serves g s = ServedFrom g.place.node g.place.file s

module _ (g : Ground) where
  read_from : (id : OpId) (o : Option Reply) → AreFrom g.place.node g.place.file (read_answer g id o).outs
  read_from id (Some (reply.Ok count size bytes)) = ((refl, refl), tt)
  read_from id _ = tt

  done_from : (s : Served) (ask : WaitingAsk) (o : Option Led) (left : Asks) → Serves g s → LedFromIfAny g.place.node g.place.file o → Serves g (write_done s ask o left)
  done_from s ask None left is led = record { outs = is.outs }
  done_from s ask (Some l) left is led = record { outs = both g.place.node g.place.file s.turned.outs l.turned.outs is.outs led.outs }

  serves_from : (s : Served) (ask : WaitingAsk) (left : Asks) → Serves g s → Serves g (serves g s ask left)
  serves_from s ask left is =
      either_served (is_read ask.op)
      (record { outs = both g.place.node g.place.file s.turned.outs (read_answer g ask.id (reads g s.primary ask.op)).outs is.outs (read_from ask.id (reads g s.primary ask.op)) })
      (done_from s ask (writes g s.primary ask.id ask.epoch ask.op) left is (writes_from g s.primary ask.id ask.epoch ask.op))

  waiting_from : (s : Served) (ask : WaitingAsk) → Serves g s → Serves g (serves_waiting g s ask)
  waiting_from s ask is = either_served (not (is_read ask.op) && is_some s.asks.issued) (record { outs = is.outs }) (serves_from s ask (stays s.asks ask) is)

  each_from : (waiting : List WaitingAsk) (s : Served) → Serves g s → Serves g (fold (serves_waiting g) s waiting)
  each_from [] s is = is
  each_from (ask ∷ waiting) s is = each_from waiting (serves_waiting g s ask) (waiting_from s ask is)

all_from : (g : Ground) (p : PrimaryState) (waiting : List WaitingAsk) → Serves g (serves_all g p waiting)
unfolding serves_all
all_from g p waiting = each_from g waiting (record { primary = p; asks = no_asks; turned = quiet }) (record { outs = tt })

follow_from : (g : Ground) (before : Option Tenure) (asks : Asks) (led : Led) → From g led → Serves g (asks_follow g before asks led)
follow_from g before asks led is =
    either_served (is_ready led.primary.tenure && not (is_ready before))
    (record { outs = both g.place.node g.place.file led.turned.outs (serves_all g led.primary asks.waiting).turned.outs is.outs (all_from g led.primary asks.waiting).outs })
    (record { outs = is.outs })

-- ---- steps of a file

record StepFrom (node : NodeId) (file : FileId) (step : FileStep) : Type 0 where
  pub outs : AreFrom node file step.turned.outs

either_step : {node : NodeId} {file : FileId} (b : Bool) {x y : FileStep} → StepFrom node file x → StepFrom node file y → StepFrom node file (cond b x y)
either_step true p q = p
either_step false p q = q

each_told : (node : NodeId) (file : FileId) (waiting : List WaitingAsk) (answer : Reply) → AreFrom node file (tells_each node file waiting answer)
each_told node file waiting answer = mapped node file (λ (w : WaitingAsk). reply_to node file w.id answer) waiting (λ w. (refl, refl))

untold_from : (node : NodeId) (file : FileId) (o : Option IssuedAsk) (answer : Reply) → AreFrom node file (tells_untold node file o answer)
untold_from node file None answer = tt
untold_from node file (Some issued) answer = at issued.told
  where
    at : (b : Bool) → AreFrom node file (if b then [] else reply_to node file issued.ask.id answer ∷ [])
    at true = tt
    at false = ((refl, refl), tt)

abbrev Steps : Site → FileState → FileStep → Type 0
Steps site s step = StepFrom site.node s.kept.file step

module _ (site : Site) where
  -- ---- what is overdue

  deadlines_from : (s : FileState) (o : Option Tenure) → Steps site s (deadlines_under site s o)
  deadlines_from s None = record { outs = tt }
  deadlines_from s (Some t) =
      let answer = reply.NoMajority (have_in t.peers t.progress) (majority_among t.peers) in
      record { outs = both site.node s.kept.file _ _ (each_told site.node s.kept.file (filter (is_due site.now) s.asks.waiting) answer) (untold_from site.node s.kept.file (newly_due site.now s.asks.issued) answer) }

  no_lease_from : (s : FileState) → AreFrom site.node s.kept.file (tells_untold site.node s.kept.file s.asks.issued (reply.NoLease s.last_end) ++ tells_each site.node s.kept.file s.asks.waiting (reply.NoLease s.last_end))
  no_lease_from s =
      both site.node s.kept.file (tells_untold site.node s.kept.file s.asks.issued (reply.NoLease s.last_end)) (tells_each site.node s.kept.file s.asks.waiting (reply.NoLease s.last_end))
      (untold_from site.node s.kept.file s.asks.issued (reply.NoLease s.last_end)) (each_told site.node s.kept.file s.asks.waiting (reply.NoLease s.last_end))

  became_from : (s : FileState) (before after : LeaseState) → Steps site s (lease_became site s before after)
  became_from s (held h) (free p) = record { outs = no_lease_from s }
  became_from s (asking r) (free p) = record { outs = no_lease_from s }
  became_from s (writing r) (free p) = record { outs = no_lease_from s }
  became_from s (free p) after = deadlines_from s s.primary.tenure
  became_from s (held h) (held k) = deadlines_from s s.primary.tenure
  became_from s (held h) (asking r) = deadlines_from s s.primary.tenure
  became_from s (held h) (writing r) = deadlines_from s s.primary.tenure
  became_from s (asking q) (held h) = deadlines_from s s.primary.tenure
  became_from s (asking q) (asking r) = deadlines_from s s.primary.tenure
  became_from s (asking q) (writing r) = deadlines_from s s.primary.tenure
  became_from s (writing q) (held h) = deadlines_from s s.primary.tenure
  became_from s (writing q) (asking r) = deadlines_from s s.primary.tenure
  became_from s (writing q) (writing r) = deadlines_from s s.primary.tenure

  -- ---- the lease

  led_from : (s : FileState) (o : Option Tenure) → Steps site s (led_on site s o)
  led_from s (Some t) = record { outs = tt }
  led_from s None = record { outs = (drawn_from (ground_of site s).place s.primary.learnt s.kept.head (members_of s.kept.location)).outs }

  news_from : (s : FileState) (news : LeaseNews) → Steps site s (lease_news site s news)
  news_from s lease.nothing = record { outs = tt }
  news_from s (sends_write ballot l targets) =
      record { outs = mapped site.node s.kept.file (λ (target : NodeId × Boot). message site.node target.0 (payload.Write s.kept.file ballot target.1 l)) targets (λ target. (refl, refl)) }
  news_from s (holds end) = record { outs = (led_from (record s { last_end = end }) s.primary.tenure).outs }
  news_from s (finds l) =
      either_step (l.node.0 == site.node.0) (record { outs = each_told site.node s.kept.file s.asks.waiting (reply.NoLease s.last_end) })
      (record { outs = each_told site.node s.kept.file s.asks.waiting (reply.Elsewhere l.node l.end) })
  news_from s ends = record { outs = each_told site.node s.kept.file s.asks.waiting (reply.NoLease s.last_end) }

  write_from : (s : FileState) (from : NodeId) (ballot : Ballot) (boot : Boot) (answer : WriteAnswer) → AreFrom site.node s.kept.file (answers_to_write site s from ballot boot answer)
  write_from s from ballot boot accepted = ((refl, refl), tt)
  write_from s from ballot boot (write_refused seen) = ((refl, refl), tt)
  write_from s from ballot boot other_boot = tt

read_answered : (file : FileId) (boot : Boot) (ballot : Ballot) (answer : ReadAnswer) → file_concerned (answer_to_read file boot ballot answer) ≡ Some file
read_answered file boot ballot (promise report) = refl
read_answered file boot ballot (read_refused seen) = refl

expired_from : (site : Site) (s : FileState) → Steps site s (expired site s)
unfolding expired
expired_from site s = record { outs = (became_from site (record s { lease = lease_expired s.lease site.now }) s.lease (lease_expired s.lease site.now)).outs }

answer_from : (site : Site) (s : FileState) (from : NodeId) (content : Payload) → Steps site s (answer_comes site s from content)
unfolding answer_comes
answer_from site s from content =
    record { outs = (news_from site (record s { lease = (on_answer s.lease site.now from content).state; last_end = end_after_answer site s from content }) (on_answer s.lease site.now from content).news).outs }

read_comes_from : (site : Site) (s : FileState) (from : NodeId) (ballot : Ballot) → Steps site s (read_comes site s from ballot)
unfolding read_comes
read_comes_from site s from ballot = record { outs = ((refl, read_answered s.kept.file s.acceptor.boot ballot (on_read s.acceptor ballot).answer), tt) }

write_comes_from : (site : Site) (s : FileState) (from : NodeId) (ballot : Ballot) (boot : Boot) (l : Lease) → Steps site s (write_comes site s from ballot boot l)
unfolding write_comes
write_comes_from site s from ballot boot l = record { outs = write_from site s from ballot boot (on_write s.acceptor ballot boot l).answer }

-- ---- the replica

-- a replica's answer concerns its file
abbrev Answers : FileId → Option Payload → Type 0
Answers file None = Unit {0}
Answers file (Some content) = file_concerned content ≡ Some file

record ActedFrom (file : FileId) (acted : Acted) : Type 0 where
  pub answer : Answers file acted.answer

either_acted : {file : FileId} (b : Bool) {x y : Acted} → ActedFrom file x → ActedFrom file y → ActedFrom file (cond b x y)
either_acted true p q = p
either_acted false p q = q

answer_sent : (node to : NodeId) (file : FileId) (o : Option Payload) → Answers file o → AreFrom node file (if_any node to o)
answer_sent node to file None is = tt
answer_sent node to file (Some content) is = ((refl, is), tt)

promised_from : (file : FileId) (own : FileHead) (epoch : Epoch) (row : Acted) → ActedFrom file row → ActedFrom file (as_promised file own epoch row)
promised_from file own epoch row p = either_acted (is_earlier epoch own.promised) (record { answer = refl }) (either_acted (is_earlier own.promised epoch) (record { answer = refl }) p)

gathered_from : (file : FileId) (own : FileHead) (epoch : Epoch) → ActedFrom file (gathered file own epoch)
unfolding gathered
gathered_from file own epoch = either_acted (is_earlier epoch own.promised) (record { answer = refl }) (either_acted (is_earlier own.promised epoch) (record { answer = refl }) (record { answer = refl }))

staged_row_from : (file : FileId) (own : FileHead) (here : List ObjectVersion) (epoch : Epoch) (object : ℕ) (version : Stamp) (bytes : List ℕ) → ActedFrom file (staged file own here epoch object version bytes)
unfolding staged
staged_row_from file own here epoch object version bytes =
    promised_from file own epoch (record { rec = stage_record file here object version bytes; answer = Some (payload.Staged file epoch object version) }) (record { answer = refl })

taken_from : (file : FileId) (epoch : Epoch) (head : FileHead) (lacks : Option ObjectVersion) → ActedFrom file (head_taken file epoch head lacks)
taken_from file epoch head None = record { answer = refl }
taken_from file epoch head (Some v) = record { answer = refl }

headed_from : (file : FileId) (own : FileHead) (here : List ObjectVersion) (epoch : Epoch) (head : FileHead) → ActedFrom file (headed file own here epoch head)
unfolding headed
headed_from file own here epoch head =
    either_acted (is_epoch head.promised epoch && is_epoch head.stamp.epoch epoch)
    (promised_from file own epoch (head_offered file own here epoch head)
    (either_acted (is_below own.stamp head.stamp) (taken_from file epoch head (first_missing here head.versions)) (record { answer = refl }))) (record { answer = tt })

updated_from : (file : FileId) (own : FileHead) (update : Update) → ActedFrom file (updated file own update)
unfolding updated
updated_from file own update =
    promised_from file own update.stamp.epoch (update_offered file own update)
    (either_acted (not (is_epoch own.stamp.epoch update.stamp.epoch)) (record { answer = refl })
    (either_acted (nat_le update.stamp.count own.stamp.count) (record { answer = refl })
    (either_acted (update.stamp.count == own.stamp.count + 1)
    (either_acted (head_fits (head_after own update)) (record { answer = refl }) (record { answer = tt })) (record { answer = refl }))))

fetched_concerns : (file : FileId) (here : List ObjectVersion) (body : ℕ → Stamp → List ℕ) (epoch : Epoch) (object : ℕ) (version : Stamp)
    → file_concerned (fetched_from file here body epoch object version) ≡ Some file
unfolding fetched_from
fetched_concerns file here body epoch object version = at (has_version here (body_of object version))
  where
    at : (b : Bool) → file_concerned (if b then payload.Object file epoch object version (body object version) else payload.Missing file epoch object version) ≡ Some file
    at true = refl
    at false = refl

-- ---- asks

module _ (site : Site) where
  under_from : (s : FileState) (l : LeaseState) (ask : WaitingAsk) → Steps site s (ask_under site s l ask)
  under_from s (held h) ask =
      either_step (is_active s.primary.tenure)
      (record { outs = (serves_from (ground_of site s) (record { primary = s.primary; asks = s.asks; turned = quiet }) ask (waits s.asks ask) (record { outs = tt })).outs })
      (record { outs = tt })
  under_from s (asking r) ask = record { outs = tt }
  under_from s (writing r) ask = record { outs = tt }
  under_from s (free p) ask = at (elsewhere site s.acceptor.accepted)
    where
      at : (o : Option Reply) → Steps site s (ask_without_lease site s p ask o)
      at (Some answer) = record { outs = ((refl, refl), tt) }
      at None = either_step (can_ask p)
          (record { outs = mapped site.node s.kept.file (λ (to : NodeId). message site.node to (payload.Read s.kept.file (round_starts p site.now (members_of s.kept.location)).ballot)) (members_of s.kept.location) (λ to. (refl, refl)) })
          (record { outs = tt })

  rows_from : (s : FileState) (ask : WaitingAsk) → Steps site s (ask_rows site s ask)
  rows_from s ask = either_step (asked_already s.asks ask.id) (record { outs = tt }) (under_from s s.lease ask)

  let_in_from : (s : FileState) (id : OpId) (capability : Capability) (asked : Op) (o : Option Reply) → Steps site s (ask_let_in site s id capability asked o)
  let_in_from s id capability asked (Some answer) = record { outs = ((refl, refl), tt) }
  let_in_from s id capability asked None = stored s.kept.location
    where
      ask : WaitingAsk
      ask = waiting_ask site id capability.epoch asked

      stored : (was : Option Location) → Steps site s (and_then (steps_to (record s { used = site.now }) (keeps (view_record s capability.location was))) (λ state. ask_rows site state (waiting_ask site id capability.epoch asked)))
      stored None = record { outs = (rows_from (steps_to (record s { used = site.now }) (keeps (view_record s capability.location None))).state (waiting_ask site id capability.epoch asked)).outs }
      stored (Some location) = record { outs = (rows_from (steps_to (record s { used = site.now }) (keeps (view_record s capability.location (Some location)))).state (waiting_ask site id capability.epoch asked)).outs }

  heard_from : (s : FileState) (l : LeaseState) (from : NodeId) (content : Payload) → Steps site s (primary_hears site s l from content)
  heard_from s (held h) from content = record { outs = (follow_from (ground_of site s) s.primary.tenure s.asks (hears (ground_of site s) s.primary from content) (hears_from (ground_of site s) s.primary from content)).outs }
  heard_from s (free p) from content = record { outs = tt }
  heard_from s (asking r) from content = record { outs = tt }
  heard_from s (writing r) from content = record { outs = tt }

  renews_from : (s : FileState) (h : Held) → Steps site s (renews site s h)
  renews_from s h =
      either_step (is_renewal_due h site.now s.used)
      (record { outs = mapped site.node s.kept.file (λ (to : NodeId). message site.node to (payload.Read s.kept.file (round_starts h.proposer site.now (members_of s.kept.location)).ballot)) (members_of s.kept.location) (λ to. (refl, refl)) })
      (record { outs = tt })

asks_from : (site : Site) (s : FileState) (k : Kind) (id : OpId) (capability : Capability) (asked : Op) → Steps site s (ask_comes site s k id capability asked)
unfolding handle_ask
asks_from site s kind.Replicated id capability asked = let_in_from site s id capability asked (refusal_of site s.kept.location capability asked)
asks_from site s kind.Striped id capability asked =
    record {
      outs = answer_sent site.node id.client s.kept.file (handle_striped site s.kept id capability asked).answer
          (striped_outcome (ActedFrom s.kept.file) site s.kept id capability asked
          (record { nothing = record { answer = tt }; tells = λ answer. record { answer = refl }; keeps = λ update keeps. record { answer = refl } })).answer;
    }

-- ---- a message, and a Wake

comes_from : (site : Site) (s : FileState) (from : NodeId) (content : Payload) → Steps site s (message_comes site s from content)
comes_from site s from (payload.Ask number capability asked) = asks_from site s capability.location.kind (record { client = from; number = number }) capability asked
comes_from site s from (payload.Read f ballot) = read_comes_from site s from ballot
comes_from site s from (payload.Write f ballot boot l) = write_comes_from site s from ballot boot l
comes_from site s from (payload.Promise f ballot boot report) = answer_from site s from (payload.Promise f ballot boot report)
comes_from site s from (payload.Accepted f ballot boot) = answer_from site s from (payload.Accepted f ballot boot)
comes_from site s from (payload.Outrun f ballot seen) = answer_from site s from (payload.Outrun f ballot seen)
comes_from site s from (payload.Gather f epoch) =
    record { outs = answer_sent site.node from s.kept.file (gathered s.kept.file s.kept.head epoch).answer (gathered_from s.kept.file s.kept.head epoch).answer }
comes_from site s from (payload.Fetch f epoch object version) = record { outs = ((refl, fetched_concerns s.kept.file s.kept.held (site.body s.kept.file) epoch object version), tt) }
comes_from site s from (payload.Stage f epoch object version bytes) =
    record { outs = answer_sent site.node from s.kept.file (staged s.kept.file s.kept.head s.kept.held epoch object version bytes).answer (staged_row_from s.kept.file s.kept.head s.kept.held epoch object version bytes).answer }
comes_from site s from (payload.Head f epoch head) =
    record { outs = answer_sent site.node from s.kept.file (headed s.kept.file s.kept.head s.kept.held epoch head).answer (headed_from s.kept.file s.kept.head s.kept.held epoch head).answer }
comes_from site s from (payload.Update f update) =
    record { outs = answer_sent site.node from s.kept.file (updated s.kept.file s.kept.head update).answer (updated_from s.kept.file s.kept.head update).answer }
comes_from site s from content = heard_from site s s.lease from content

-- after what is overdue
then_from : (site : Site) (s : FileState) (rest : List Msg) → AreFrom site.node (expired site s).state.kept.file rest → AreFrom site.node s.kept.file ((expired site s).turned.outs ++ rest)
then_from site s rest are =
    both site.node s.kept.file (expired site s).turned.outs rest (expired_from site s).outs (subst (λ (row : FileRow). AreFrom site.node row.file rest) (expired_keeps site s) are)

pub message_from : (site : Site) (s : FileState) (from : NodeId) (content : Payload) → AreFrom site.node s.kept.file (step_of_file site s from content).turned.outs
unfolding step_of_file
message_from site s from content = then_from site s (message_comes site (expired site s).state from content).turned.outs (comes_from site (expired site s).state from content).outs

woken_from : (site : Site) (s : FileState) (l : LeaseState) → Steps site s (wakes_under_lease site s l)
woken_from site s (held h) =
    let woke = wakes (ground_of site s).place s.primary in
    let same = ap (λ (rec : Option Record). (kept_after s.kept rec).file) (wake_keeps (ground_of site s).place s.primary) in
    let later = subst (λ (f : FileId). AreFrom site.node f (renews site (steps_to s (wakes (ground_of site s).place s.primary)).state h).turned.outs) same (renews_from site (steps_to s woke).state h).outs in
    record { outs = both site.node s.kept.file woke.outs (renews site (steps_to s woke).state h).turned.outs (wakes_from (ground_of site s).place s.primary) later }
woken_from site s (free p) = record { outs = tt }
woken_from site s (asking r) = record { outs = tt }
woken_from site s (writing r) = record { outs = tt }

wake_rows_from : (site : Site) (s : FileState) → AreFrom site.node s.kept.file (wake_of_file site s).turned.outs
unfolding wake_of_file
wake_rows_from site s = (woken_from site s s.lease).outs

pub wake_from : (site : Site) (s : FileState) → AreFrom site.node s.kept.file (wake_step site s).turned.outs
wake_from site s = then_from site s (wake_of_file site (expired site s).state).turned.outs (wake_rows_from site (expired site s).state)
