-- a primary that serves and wakes: its answers, its updates and what it sends again are within the limits
use Rattle.std.proofs.Common.{◌≡◌, ◌==◌, ◌&&◌, ◌<◌, ◌≤◌, ◌+◌, ◌^◌, ℕ, nat_lt, List, ◌∷◌, Option, Some, None, true, arith}
use Rattle.std.specs.Prelude.{not}
use Rattle.std.specs.Option.{IfSome}
use Rattle.std.specs.List.{AllByRecursion}
use Rattle.std.proofs.lemmas.Bool.Decides.{nat_tests}
use Rattle.xt_base.specs.MemberList.{has_node}
use Rattle.xt_base.specs.declared.TheConstants.{OBJECTS, COUNTS}
use Rattle.xt_base.specs.declared.ids.NodeId.{NodeId}
use Rattle.xt_base.specs.declared.ids.OpId.{OpId}
use Rattle.xt_base.specs.declared.ids.Epoch.{Epoch}
use Rattle.xt_messages.specs.declared.file.FileHead.{FileHead}
use Rattle.xt_messages.specs.declared.file.Op.{Op}
use Rattle.xt_messages.specs.declared.file.Update.{Update}
use Rattle.xt_messages.specs.declared.message.Payload.{Payload}
use Rattle.xt_messages.specs.declared.message.Payload.TheVariants as payload
use Rattle.xt_base.specs.FieldLimits.{IsCount}
use Rattle.xt_messages.specs.Limits.{FitsNode, FitsFile, FitsEpoch, FitsHead, FitsUpdate, FitsMessage, FitsPayload, FitsOp, FitsOpId, FitsReply}
use Rattle.xt_protocol.specs.declared.states.Place.{Place}
use Rattle.xt_protocol.specs.declared.states.IssuedUpdate.{IssuedUpdate}
use Rattle.xt_protocol.specs.declared.states.Peer.{Peer}
use Rattle.xt_protocol.specs.declared.states.PeerState.{PeerState}
use Rattle.xt_protocol.specs.declared.states.PeerState.TheVariants as peer
use Rattle.xt_protocol.specs.declared.states.PrimaryState.{PrimaryState}
use Rattle.xt_protocol.specs.declared.states.Progress.{Progress}
use Rattle.xt_protocol.specs.declared.states.Progress.TheVariants as progress
use Rattle.xt_protocol.specs.declared.states.Tenure.{Tenure}
use Rattle.xt_protocol.specs.declared.states.WaitingAsk.{WaitingAsk}
use Rattle.xt_protocol.specs.Writes.{WriteStanding, repeated, older, turned_away, fresh, standing}
use Rattle.xt_protocol.specs.Primaries.{Ground, Led, is_current, if_any}
use Rattle.xt_protocol.specs.Serving.{reads_in, reads_under, reads, current_others, issues, next_update_of, issues_unless, write_stands, writes_in, writes_under, writes, gather_unknown, unacked, resend, to_peers, wakes_in, wakes_under, wakes}
use Rattle.object_versions.proofs.HeadLimits.{either, when}
use Rattle.client_limits.proofs.Lists.{all_filter}
use Rattle.world_limits.proofs.Lists.{all_flat, all_weaker}
use Rattle.world_limits.specs.States.{AreSent, PeerStateIs, PeerIs, IssuedIs, ProgressIs, TenureIs, PrimaryIs, AskIs, IsInside}
use Rattle.client_limits.proofs.Messages.{sent}
use Rattle.world_limits.proofs.Updates.{no_bytes, shown_is, StandingIs, standing_is, update_is}
use Rattle.world_limits.proofs.Primary.{each_sent, any_sent, last_is, nodes_are, LedIs, GroundIs}

-- ---- reads

reads_in_is : (g : Ground) (peers : List Peer) (p : Progress) (asked : Op) → GroundIs g → ProgressIs peers p → FitsOp asked → IfSome (reads_in g p asked) FitsReply
reads_in_is g peers progress.Gathering asked ground is fits = tt
reads_in_is g peers (progress.Fetching chosen source wanted later) asked ground is fits = tt
reads_in_is g peers (progress.Installing chosen acked) asked ground is fits = tt
reads_in_is g peers (progress.Active head issued) asked ground is fits = (is.0.place.writes, is.0.after, shown_is g.place.stripe g.body head asked ground.bodies fits)

pub reads_is : (g : Ground) (p : PrimaryState) (asked : Op) → GroundIs g → PrimaryIs p → FitsOp asked → IfSome (reads g p asked) FitsReply
unfolding reads
reads_is g p asked ground is fits = at p.tenure is.leads
  where
    at : (o : Option Tenure) → IfSome o TenureIs → IfSome (reads_under g o asked) FitsReply
    at None leads = tt
    at (Some t) leads = reads_in_is g t.peers t.progress asked ground leads.stands fits

-- ---- writes

module _ (g : Ground) (learnt : ℕ) (ground : GroundIs g) (number : IsCount learnt) (least : 1 ≤ g.place.stripe) (most : g.place.stripe ≤ 131072)
    (id : OpId) (epoch : ℕ) (asked : Op) (who : FitsOpId id) (truncation : IsCount epoch) (fits : FitsOp asked) (inside : IsInside asked) where
  abbrev Leads : Led → Type 0
  Leads led = LedIs g.place.file g.own led

  next_is : (t : Tenure) (head : FileHead) → TenureIs t → FitsHead head → StandingIs OBJECTS g.place.stripe asked fresh → IfSome (next_update_of g t head id epoch asked) FitsUpdate
  next_is t head is whole near =
      when (λ o. IfSome o FitsUpdate) (nat_lt (head.stamp.count + 1) COUNTS) _ _
      (λ room. update_is OBJECTS g.place.stripe g.body head (record { epoch = t.epoch; count = head.stamp.count + 1 }) id epoch asked
      (record {
        few = omega arith;
        least = least;
        most = most;
        bodies = ground.bodies;
        whole = whole;
        place = record { tenure = is.place; writes = below (head.stamp.count + 1) room };
        who = who;
        truncation = truncation;
        limits = fits;
        inside = inside;
        near = near;
      }))
      (λ full. tt)
    where
      below : (n : ℕ) → nat_lt n COUNTS ≡ true → n < 2 ^ 62
      below n less = grind (arith, nat_tests)

  issues_is : (t : Tenure) (head : FileHead) (o : Option Update) → TenureIs t → FitsHead head → IfSome o FitsUpdate → Leads (issues g learnt t head o)
  issues_is t head None is whole new = record { primary = record { number = number; leads = is }; next = tt; outs = tt }
  issues_is t head (Some update) is whole new = record {
    primary = record { number = number; leads = record { place = is.place; few = is.few; each = is.each; stands = (whole, (new, omega arith)) } };
    next = tt;
    outs = each_sent g.place.node (g.place.node ∷ current_others g.place t.peers) (payload.Update g.place.file update) ground.who
        (ground.who, nodes_are _ (all_filter PeerIs (λ (p : Peer). is_current p.state && not (p.node.0 == g.place.node.0)) t.peers is.each)) (ground.which, new);
  }

  unless_is : (t : Tenure) (head : FileHead) (issued : Option IssuedUpdate) → TenureIs t → FitsHead head → StandingIs OBJECTS g.place.stripe asked fresh → IfSome (issues_unless g learnt t head issued id epoch asked) Leads
  unless_is t head (Some u) is whole near = tt
  unless_is t head None is whole near = issues_is t head (next_update_of g t head id epoch asked) is whole (next_is t head is whole near)

  stands_is : (t : Tenure) (head : FileHead) (issued : Option IssuedUpdate) (how : WriteStanding) → TenureIs t → FitsHead head → StandingIs OBJECTS g.place.stripe asked how → IfSome (write_stands g learnt t head issued id epoch asked how) Leads
  stands_is t head issued (repeated count) is whole how = record {
    primary = record { number = number; leads = is };
    next = tt;
    outs = (sent g.place.node id.client _ ground.who who.who (who.operation, ground.which, (how, whole.after, no_bytes)), tt);
  }
  stands_is t head issued older is whole how = record { primary = record { number = number; leads = is }; next = tt; outs = tt }
  stands_is t head issued (turned_away why) is whole how = record {
    primary = record { number = number; leads = is };
    next = tt;
    outs = (sent g.place.node id.client _ ground.who who.who (who.operation, ground.which, how), tt);
  }
  stands_is t head issued fresh is whole how = unless_is t head issued is whole how

  writes_in_is : (t : Tenure) (p : Progress) → TenureIs t → ProgressIs t.peers p → IfSome (writes_in g learnt t p id epoch asked) Leads
  writes_in_is t progress.Gathering is stands = tt
  writes_in_is t (progress.Fetching chosen source wanted later) is stands = tt
  writes_in_is t (progress.Installing chosen acked) is stands = tt
  writes_in_is t (progress.Active head issued) is stands =
      stands_is t head issued (standing OBJECTS g.place.stripe head id epoch asked) is stands.0 (standing_is OBJECTS g.place.stripe head epoch asked least stands.0 fits id)

  pub writes_under_is : (o : Option Tenure) → IfSome o TenureIs → IfSome (writes_under g learnt o id epoch asked) Leads
  writes_under_is None is = tt
  writes_under_is (Some t) is = writes_in_is t t.progress is is.stands

pub writes_is : (g : Ground) (p : PrimaryState) (ask : WaitingAsk) → GroundIs g → 1 ≤ g.place.stripe → g.place.stripe ≤ 131072 → PrimaryIs p → AskIs ask
    → IfSome (writes g p ask.id ask.epoch ask.op) (LedIs g.place.file g.own)
unfolding writes
writes_is g p ask ground least most is fits = writes_under_is g p.learnt ground is.number least most ask.id ask.epoch ask.op fits.who fits.truncation fits.asked fits.inside p.tenure is.leads

-- ---- wakes

module _ (place : Place) (who : FitsNode place.node) (which : FitsFile place.file) where
  peers_sent : (peers : List Peer) (content : NodeId → PeerState → Option Payload) → AllByRecursion PeerIs peers → ((p : Peer) → PeerIs p → IfSome (content p.node p.state) FitsPayload) → AreSent (to_peers place peers content).outs
  peers_sent peers content all each =
      all_flat FitsMessage (λ (p : Peer). if_any place.node p.node (content p.node p.state)) peers
      (all_weaker PeerIs (λ (p : Peer). AreSent (if_any place.node p.node (content p.node p.state))) peers (λ p is. any_sent place.node p.node (content p.node p.state) who is.0 (each p is)) all)

  gathers_unknown : (epoch : Epoch) (node : NodeId) (state : PeerState) → FitsEpoch epoch → IfSome (gather_unknown place epoch node state) FitsPayload
  gathers_unknown epoch node peer.Unknown fits = (which, fits)
  gathers_unknown epoch node (peer.Reported head) fits = tt
  gathers_unknown epoch node (peer.Feeding known object version body) fits = tt
  gathers_unknown epoch node (peer.Heading known head) fits = tt
  gathers_unknown epoch node peer.Current fits = tt

  unacked_is : (peers : List Peer) (node : NodeId) (issued : Option IssuedUpdate) → IssuedIs peers issued → IfSome (unacked place.file node issued) FitsPayload
  unacked_is peers node None is = tt
  unacked_is peers node (Some u) is = either (λ o. IfSome o FitsPayload) (has_node u.acked node.0) None (Some (payload.Update place.file u.update)) tt (which, is.0)

  again_is : (peers : List Peer) (epoch : Epoch) (issued : Option IssuedUpdate) (node : NodeId) (state : PeerState) → FitsEpoch epoch → IssuedIs peers issued → PeerStateIs state → IfSome (resend place epoch issued node state) FitsPayload
  again_is peers epoch issued node peer.Unknown fits u is = (which, fits)
  again_is peers epoch issued node (peer.Reported head) fits u is = tt
  again_is peers epoch issued node (peer.Feeding known object version body) fits u is = last_is place.file epoch (peer.Feeding known object version body) which fits is
  again_is peers epoch issued node (peer.Heading known head) fits u is = last_is place.file epoch (peer.Heading known head) which fits is
  again_is peers epoch issued node peer.Current fits u is = unacked_is peers node issued u

  wakes_in_is : (t : Tenure) (p : Progress) → TenureIs t → ProgressIs t.peers p → AreSent (wakes_in place t p).outs
  wakes_in_is t progress.Gathering is stands = peers_sent t.peers (gather_unknown place t.epoch) is.each (λ p fits. gathers_unknown t.epoch p.node p.state is.place)
  wakes_in_is t (progress.Fetching chosen source asked later) is stands =
      (sent place.node source (payload.Fetch place.file t.epoch asked.object asked.version) who stands.1 (which, is.place, stands.2.which, stands.2.write), tt)
  wakes_in_is t (progress.Installing chosen acked) is stands =
      peers_sent t.peers (resend place t.epoch None) is.each (λ p fits. again_is t.peers t.epoch None p.node p.state is.place tt fits.1)
  wakes_in_is t (progress.Active head issued) is stands =
      peers_sent t.peers (resend place t.epoch issued) is.each (λ p fits. again_is t.peers t.epoch issued p.node p.state is.place stands.1 fits.1)

  pub wakes_is : (p : PrimaryState) → PrimaryIs p → AreSent (wakes place p).outs
  unfolding wakes
  wakes_is p is = at p.tenure is.leads
    where
      at : (o : Option Tenure) → IfSome o TenureIs → AreSent (wakes_under place o).outs
      at None leads = tt
      at (Some t) leads = wakes_in_is t t.progress leads leads.stands
