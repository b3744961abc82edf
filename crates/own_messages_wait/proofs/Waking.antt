-- what a Wake comes to at a file: one message of the primary to the own node, and one of a renewal
use Rattle.std.proofs.Common.{◌≡◌, ◌≤◌, ◌+◌, inr, Bool, true, false, List, ◌++◌, refl, sym, ap, ap₂, subst, ◌∙◌, Option, Some, None, is_some, le_refl}
use Rattle.std.specs.Prelude.{cond, ◌==◌}
use Rattle.xt_base.specs.MemberList.{has_node, are_distinct}
use Rattle.xt_base.specs.declared.ids.NodeId.{NodeId}
use Rattle.xt_base.specs.declared.ids.FileId.{FileId}
use Rattle.xt_messages.specs.declared.file.FileHead.{FileHead}
use Rattle.xt_messages.specs.declared.message.Msg.{Msg}
use Rattle.xt_messages.specs.declared.message.Payload.{Payload}
use Rattle.xt_messages.specs.declared.message.Payload.TheVariants as payload
use Rattle.xt_messages.specs.declared.record.FileRow.{FileRow}
use Rattle.xt_protocol.specs.LeaseRows.{LeaseState, running_round, free, asking, writing, held, Held, is_renewal_due, renewal_starts, round_starts}
use Rattle.xt_protocol.specs.declared.states.IssuedUpdate.{IssuedUpdate}
use Rattle.xt_protocol.specs.declared.states.PeerState.{PeerState}
use Rattle.xt_protocol.specs.declared.states.PeerState.TheVariants as peer
use Rattle.xt_protocol.specs.declared.states.Place.{Place}
use Rattle.xt_protocol.specs.declared.states.Progress.{Progress}
use Rattle.xt_protocol.specs.declared.states.Progress.TheVariants as progress
use Rattle.xt_protocol.specs.declared.states.Tenure.{Tenure}
use Rattle.xt_protocol.specs.declared.states.PrimaryState.{PrimaryState}
use Rattle.xt_protocol.specs.declared.states.Asks.{Asks}
use Rattle.xt_protocol.specs.ReplicaRows.{kept_after}
use Rattle.xt_protocol.specs.Primaries.{nodes_of, peer_in}
use Rattle.xt_protocol.specs.Serving.{gather_unknown, unacked, resend, wakes_in, wakes_under, wakes}
use Rattle.xt_protocol.specs.Asks.{WAITING}
use Rattle.xt_protocol.specs.FileStates.{FileState, Site, FileStep, nothing, steps_to, members_of, ground_of}
use Rattle.xt_protocol.specs.AskRows.{reads_of}
use Rattle.xt_protocol.specs.FileSteps.{renews, wakes_under_lease, wake_of_file}
use Rattle.osd_invariants.specs.Sound.{IsHeld, IsSound, PeersAre}
use Rattle.osd_invariants.proofs.Kept.{wake_keeps}
use Rattle.world_spec.specs.NodeSteps.{to_itself}
use Rattle.own_messages_wait.proofs.Weights.{asks_left}
use Rattle.own_messages_wait.proofs.Standing.{IfAbout, HeadStands, IfMessage, IfTenure, ProgressStands, TenureStands}
use Rattle.own_messages_wait.proofs.Moves.{moves_none}
use Rattle.own_messages_wait.proofs.Mine.{token, mine-append, mine-each, mine-one, mine-peers, of_peer}
use Rattle.own_messages_wait.proofs.Rows.{IfLeads, next_stands}
use Rattle.own_messages_wait.proofs.Leases.{IfSeated, IsFree, IsLeaseOf}
use Rattle.own_messages_wait.proofs.Files.{FileStands, IfLed}
use Rattle.own_messages_wait.proofs.Messages.{Gives}
use Rattle.own_messages_wait.proofs.Asking.{fresh_seats}

-- what a primary sends to the own node again
record Again (n : NodeId) (row : FileRow) (o : Option Tenure) (outs : List Msg) : Type 0 where
  pub sent : Option Payload
  pub is : to_itself n outs ≡ token n sent
  pub stands : IfMessage row sent
  pub leads : IfLeads sent o
  pub about : IfAbout row.file sent

module _ (place : Place) (row : FileRow) (its : place.file ≡ row.file) (t : Tenure) (stands : TenureStands place.node row.head t) (apart : are_distinct (nodes_of t.peers) ≡ true) where
  unknown_again : (o : Option PeerState) → IfMessage row (of_peer (gather_unknown place t.epoch) place.node o)
  unknown_again None = tt
  unknown_again (Some peer.Unknown) = (stands.promised, tt)
  unknown_again (Some (peer.Reported head)) = tt
  unknown_again (Some (peer.Feeding known object version body)) = tt
  unknown_again (Some (peer.Heading known head)) = tt
  unknown_again (Some peer.Current) = tt

  unacked_again : (head : FileHead) (issued : Option IssuedUpdate) → t.progress ≡ progress.Active head issued → IfMessage row (unacked place.file place.node issued)
  unacked_again head None is = tt
  unacked_again head (Some i) is = at (has_node i.acked place.node.0)
    where
      at : (b : Bool) → IfMessage row (cond b None (Some (payload.Update place.file i.update)))
      at true = tt
      at false = (next_stands place.node row t place.file head i is stands, tt)

  sent_stands : (issued : Option IssuedUpdate) → IfMessage row (unacked place.file place.node issued) → (o : Option PeerState) → IfMessage row (of_peer (resend place t.epoch issued) place.node o)
  sent_stands issued is None = tt
  sent_stands issued is (Some peer.Unknown) = (stands.promised, tt)
  sent_stands issued is (Some peer.Current) = is
  sent_stands issued is (Some (peer.Reported head)) = tt
  sent_stands issued is (Some (peer.Feeding known object version body)) = (stands.promised, tt)
  sent_stands issued is (Some (peer.Heading known head)) = (stands.promised, tt)

  unknown_about : (o : Option PeerState) → IfAbout row.file (of_peer (gather_unknown place t.epoch) place.node o)
  unknown_about None = tt
  unknown_about (Some peer.Unknown) = ap (λ (f : FileId). Some f) its
  unknown_about (Some (peer.Reported head)) = tt
  unknown_about (Some (peer.Feeding known object version body)) = tt
  unknown_about (Some (peer.Heading known head)) = tt
  unknown_about (Some peer.Current) = tt

  again_about : (issued : Option IssuedUpdate) (o : Option PeerState) → IfAbout row.file (of_peer (resend place t.epoch issued) place.node o)
  again_about issued None = tt
  again_about issued (Some peer.Unknown) = ap (λ (f : FileId). Some f) its
  again_about issued (Some (peer.Reported head)) = tt
  again_about issued (Some (peer.Feeding known object version body)) = ap (λ (f : FileId). Some f) its
  again_about issued (Some (peer.Heading known head)) = ap (λ (f : FileId). Some f) its
  again_about None (Some peer.Current) = tt
  again_about (Some i) (Some peer.Current) = at (has_node i.acked place.node.0)
    where
      at : (b : Bool) → IfAbout row.file (cond b None (Some (payload.Update place.file i.update)))
      at true = tt
      at false = ap (λ (f : FileId). Some f) its

  leads_any : (sent : Option Payload) → IfLeads sent (Some t)
  leads_any None = tt
  leads_any (Some content) = refl

  woken_again : (p : Progress) → t.progress ≡ p → Again place.node row (Some t) (wakes_in place t p).outs
  woken_again progress.Gathering is =
      record { sent = of_peer (gather_unknown place t.epoch) place.node (peer_in t.peers place.node); is = mine-peers place.node (gather_unknown place t.epoch) t.peers apart; stands = unknown_again (peer_in t.peers place.node); leads = leads_any (of_peer (gather_unknown place t.epoch) place.node (peer_in t.peers place.node)); about = unknown_about (peer_in t.peers place.node) }
  woken_again (progress.Fetching chosen source asked later) is =
      let parts = subst (ProgressStands place.node row.head t) is stands.progress in
      let content = payload.Fetch place.file t.epoch asked.object asked.version in
      record { sent = None; is = mine-one place.node source content ∙ ap (λ (b : Bool). token place.node (cond b (Some content) None)) (other parts); stands = tt; leads = tt; about = tt }
    where
      other : ProgressStands place.node row.head t (progress.Fetching chosen source asked later) → (source.0 == place.node.0) ≡ false
      other parts = parts.1
  woken_again (progress.Installing chosen acked) is =
      record { sent = of_peer (resend place t.epoch None) place.node (peer_in t.peers place.node); is = mine-peers place.node (resend place t.epoch None) t.peers apart; stands = sent_stands None tt (peer_in t.peers place.node); leads = leads_any (of_peer (resend place t.epoch None) place.node (peer_in t.peers place.node)); about = again_about None (peer_in t.peers place.node) }
  woken_again (progress.Active head issued) is =
      record { sent = of_peer (resend place t.epoch issued) place.node (peer_in t.peers place.node); is = mine-peers place.node (resend place t.epoch issued) t.peers apart; stands = sent_stands issued (unacked_again head issued is) (peer_in t.peers place.node); leads = leads_any (of_peer (resend place t.epoch issued) place.node (peer_in t.peers place.node)); about = again_about issued (peer_in t.peers place.node) }

under_again : (place : Place) (row : FileRow) (its : place.file ≡ row.file) (o : Option Tenure) → IfTenure place.node row.head o → ((t : Tenure) → o ≡ Some t → are_distinct (nodes_of t.peers) ≡ true) → Again place.node row o (wakes_under place o).outs
under_again place row its None stands apart = record { sent = None; is = refl; stands = tt; leads = tt; about = tt }
under_again place row its (Some t) stands apart = woken_again place row its t stands (apart t refl) t.progress refl

-- what a renewal sends to the own node
record Renews (n : NodeId) (s : FileState) (step : FileStep) : Type 0 where
  pub told : Option Payload
  pub is : to_itself n step.turned.outs ≡ token n told
  pub low : IsLeaseOf 4 told
  pub about : IfAbout s.kept.file told
  pub kept : step.state.kept ≡ s.kept
  pub primary : step.state.primary ≡ s.primary
  pub asks : step.state.asks ≡ s.asks
  pub holds : IsHeld step.state.lease
  pub seats : IfSeated (running_round step.state.lease)

renewing : (site : Site) (s : FileState) (h : Held) → are_distinct (members_of s.kept.location) ≡ true → IfSeated h.renewal → s.lease ≡ held h → Renews site.node s (renews site s h)
renewing site s h apart seats is = at (is_renewal_due h site.now s.used)
  where
    content : Payload
    content = payload.Read s.kept.file (round_starts h.proposer site.now (members_of s.kept.location)).ballot

    four : (b : Bool) → IsLeaseOf 4 (cond b (Some (payload.Read s.kept.file (round_starts h.proposer site.now (members_of s.kept.location)).ballot)) None)
    four true = (refl, le_refl 4)
    four false = tt

    its : (b : Bool) → IfAbout s.kept.file (cond b (Some (payload.Read s.kept.file (round_starts h.proposer site.now (members_of s.kept.location)).ballot)) None)
    its true = refl
    its false = tt

    at : (b : Bool) → Renews site.node s (cond b (steps_to (record s { lease = held (renewal_starts h site.now (members_of s.kept.location)) }) (reads_of site s (members_of s.kept.location) (round_starts h.proposer site.now (members_of s.kept.location)))) (nothing s))
    at true =
        record {
          told = cond (has_node (members_of s.kept.location) site.node.0) (Some content) None;
          is = mine-each site.node (members_of s.kept.location) content apart;
          low = four (has_node (members_of s.kept.location) site.node.0);
          about = its (has_node (members_of s.kept.location) site.node.0);
          kept = refl;
          primary = refl;
          asks = refl;
          holds = tt;
          seats = ap are_distinct (fresh_seats (members_of s.kept.location)) ∙ apart;
        }
    at false = record { told = None; is = refl; low = tt; about = tt; kept = refl; primary = refl; asks = refl; holds = subst IsHeld (sym is) tt; seats = subst (λ (l : LeaseState). IfSeated (running_round l)) (sym is) seats }

-- A Wake of a file.
module _ (site : Site) (from : NodeId) (s : FileState) (stands : FileStands site.node s) (sound : IsSound s) (apart : are_distinct (members_of s.kept.location) ≡ true) where
  under_woken : (l : LeaseState) → s.lease ≡ l → Gives site.node from s (wakes_under_lease site s l)
  unfolding wakes
  under_woken (free p) is = nothing_woken
    where
      nothing_woken : Gives site.node from s (nothing s)
      nothing_woken = record { head = stands.head; moves = λ mine. moves_none s.kept.head s.kept.head refl; tenure = stands.tenure; seats = stands.seats; few = stands.few; told = None; sent = None; outs = refl; told_is = tt; about_sent = tt; about_told = tt; stands = tt; led = λ led. tt; idle = λ o f. (refl, refl) }
  under_woken (asking r) is = record { head = stands.head; moves = λ mine. moves_none s.kept.head s.kept.head refl; tenure = stands.tenure; seats = stands.seats; few = stands.few; told = None; sent = None; outs = refl; told_is = tt; about_sent = tt; about_told = tt; stands = tt; led = λ led. tt; idle = λ o f. (refl, refl) }
  under_woken (writing r) is = record { head = stands.head; moves = λ mine. moves_none s.kept.head s.kept.head refl; tenure = stands.tenure; seats = stands.seats; few = stands.few; told = None; sent = None; outs = refl; told_is = tt; about_sent = tt; about_told = tt; stands = tt; led = λ led. tt; idle = λ o f. (refl, refl) }
  under_woken (held h) is =
      let place = (ground_of site s).place in
      record {
        head = subst (λ (k : FileRow). HeadStands k.head) (sym kept_is) stands.head;
        moves = λ mine. moves_none s.kept.head (renews site (steps_to s (wakes (ground_of site s).place s.primary)).state h).state.kept.head (ap (λ (k : FileRow). k.head) kept_is);
        tenure = subst (λ (k : FileRow). IfTenure site.node k.head (renews site (steps_to s (wakes (ground_of site s).place s.primary)).state h).state.primary.tenure) (sym kept_is)
            (subst (λ (p : PrimaryState). IfTenure site.node s.kept.head p.tenure) (sym q.primary) stands.tenure);
        seats = q.seats;
        few = subst (λ (a : Asks). asks_left a ≤ WAITING + 1) (sym q.asks) stands.few;
        told = q.told;
        sent = again.sent;
        outs = mine-append site.node (wakes (ground_of site s).place s.primary).outs (renews site (steps_to s (wakes (ground_of site s).place s.primary)).state h).turned.outs ∙ ap₂ (λ (a b : List Msg). a ++ b) again.is q.is;
        told_is = q.low;
        about_sent = again.about;
        about_told = subst (λ (k : FileRow). IfAbout k.file q.told) quiet_wake q.about;
        stands = subst (λ (k : FileRow). IfMessage k again.sent) (sym kept_is) again.stands;
        led = λ led. led_by again.sent again.leads;
        idle = λ o f. absurd (free_held (renews site (steps_to s (wakes (ground_of site s).place s.primary)).state h).state.lease f q.holds);
      }
    where
      quiet_wake : (steps_to s (wakes (ground_of site s).place s.primary)).state.kept ≡ s.kept
      quiet_wake = ap (kept_after s.kept) (wake_keeps (ground_of site s).place s.primary)

      q : Renews site.node (steps_to s (wakes (ground_of site s).place s.primary)).state (renews site (steps_to s (wakes (ground_of site s).place s.primary)).state h)
      q = renewing site (steps_to s (wakes (ground_of site s).place s.primary)).state h (ap (λ (k : FileRow). are_distinct (members_of k.location)) quiet_wake ∙ apart) (subst (λ (l : LeaseState). IfSeated (running_round l)) is stands.seats) is

      kept_is : (renews site (steps_to s (wakes (ground_of site s).place s.primary)).state h).state.kept ≡ s.kept
      kept_is = q.kept ∙ quiet_wake

      again : Again site.node s.kept s.primary.tenure (wakes_under (ground_of site s).place s.primary.tenure).outs
      again = under_again (ground_of site s).place s.kept refl s.primary.tenure stands.tenure (λ t e. ap are_distinct (subst (λ (o : Option Tenure). PeersAre (members_of s.kept.location) o) e sound.peers) ∙ apart)

      free_held : (l : LeaseState) → IsFree l → IsHeld l → ⊥
      free_held (free p) f h = h
      free_held (asking r) f h = f
      free_held (writing r) f h = f
      free_held (held p) f h = f

      led_by : (sent : Option Payload) → IfLeads sent s.primary.tenure → IfLed sent (renews site (steps_to s (wakes (ground_of site s).place s.primary)).state h).state
      led_by None leads = tt
      led_by (Some c) leads = inr (q.holds, ap (λ (p : PrimaryState). is_some p.tenure) q.primary ∙ leads)

  pub wake_given : Gives site.node from s (wake_of_file site s)
  unfolding wake_of_file
  wake_given = under_woken s.lease refl
