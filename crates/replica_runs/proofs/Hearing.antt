-- Each row of a primary on a message to it is a list of small steps, or none.
use Rattle.std.proofs.Common.{◌≡◌, ℕ, Bool, true, false, List, [], ◌∷◌, refl, sym, ap, ◌∙◌, subst, inl, inr, if◌then◌else◌, ◌==◌, ◌&&◌, not, max, Option, Some, None}
use Rattle.std.specs.Prelude.{cond, length, nat_le}
use Rattle.xt_base.specs.MemberList.{has_node}
use Rattle.xt_base.specs.declared.ids.NodeId.{NodeId}
use Rattle.xt_base.specs.declared.ids.Epoch.{Epoch}
use Rattle.xt_base.specs.declared.ids.Stamp.{Stamp}
use Rattle.xt_messages.specs.declared.event.Mark.{Mark}
use Rattle.xt_messages.specs.declared.event.Mark.TheVariants as mark
use Rattle.xt_messages.specs.declared.file.FileHead.{FileHead}
use Rattle.xt_messages.specs.declared.file.ObjectVersion.{ObjectVersion}
use Rattle.xt_messages.specs.declared.file.Op.{Op}
use Rattle.xt_messages.specs.declared.message.Msg.{Msg}
use Rattle.xt_messages.specs.declared.message.Payload.{Payload}
use Rattle.xt_messages.specs.declared.message.Payload.TheVariants as payload
use Rattle.xt_protocol.specs.Folds.{body_of}
use Rattle.xt_protocol.specs.Stamps.{is_epoch, is_earlier, is_below, is_version, without_version, with_held}
use Rattle.xt_protocol.specs.Primaries.{Led, peer_in, with_peer, reported, nodes_of, majority_among, with_node, carries, known_of_report, fed, last_sent, if_any, target_of}
use Rattle.xt_protocol.specs.PrimaryRows.{goes_on, unmoved, with_state, feeds, take_status, hears_status, hears_object, take_body, target_in, body_staged, body_missed, draw_epoch, hears_missing, makes_current, activated, committed, ack_update, acked_below, hears_ack, forgotten, peer_behind, outpromised, message_epoch, hears_peer, hears_member, hears_epoch, hears}
use Rattle.xt_protocol.specs.Turns.{sends, answers, message}
use Rattle.xt_protocol.specs.declared.states.IssuedUpdate.{IssuedUpdate}
use Rattle.xt_protocol.specs.declared.states.Peer.{Peer}
use Rattle.xt_protocol.specs.declared.states.PeerState.{PeerState}
use Rattle.xt_protocol.specs.declared.states.PeerState.TheVariants as peer
use Rattle.xt_protocol.specs.declared.states.Progress.{Progress}
use Rattle.xt_protocol.specs.declared.states.Progress.TheVariants as progress
use Rattle.xt_protocol.specs.declared.states.Tenure.{Tenure}
use Rattle.replica_safety.specs.Lists.{Has, AreDistinct}
use Rattle.replica_safety.proofs.Orders.{same_is}
use Rattle.replica_runs.specs.HeadSteps.{Step, CountsInstalled, Activates, CountsUpdated, Commits, with_acked, MayAll, after_steps}
use Rattle.replica_runs.specs.HeadWorld.{Message, Gather, UpdateSent, Ack, Status, Piece, shown, shown_if, Entry, TellsActive, TellsCommit, WriteOk, Gathering, Installing, Active, Local, Primary}
use Rattle.replica_runs.specs.World.{IsMost}
use Rattle.replica_runs.proofs.Tools.{by_test, both_true}
use Rattle.replica_runs.specs.Seen.{Seen, local_of, ground_at, AreIn, AreTold, name_of, PeersSent, AckedFit, ProgressFits, nodes_in, statuses_of, acked_by, leads_as, Leads, NamesHeld, OwnFits}
use Rattle.replica_runs.proofs.Choosing.{LeadsTo, Fit, Ready, still, draws_anew, status_comes, body_comes}
use Rattle.replica_runs.proofs.Counts.{acked_with, acked_fits, most_acked}
use Rattle.replica_runs.proofs.Feeding.{tenure_of, seen_in, if_any_shown, gather_sent, update_sent, IsTarget, target_there, fed_ready, sent_ready, with_ready}
use Rattle.replica_runs.proofs.Peers.{peer_listed, nodes_with, statuses_kept}
use Rattle.replica_runs.proofs.Sending.{Sendable, build}

-- only while it gathers does a primary show its peers
same_leads : (e : Epoch) (peers others : List Peer) (p : Progress) → (p ≡ progress.Gathering → statuses_of peers ≡ statuses_of others) → leads_as e peers p ≡ leads_as e others p
same_leads e peers others progress.Gathering same = ap (Gathering e) (same refl)
same_leads e peers others (progress.Fetching chosen source asked later) same = refl
same_leads e peers others (progress.Installing chosen acked) same = refl
same_leads e peers others (progress.Active c issued) same = refl

same_fits : (members : List ℕ) (n : ℕ) (held : List ObjectVersion) (peers others : List Peer) (p : Progress) → (p ≡ progress.Gathering → statuses_of peers ≡ statuses_of others)
    → ProgressFits members n held peers p → ProgressFits members n held others p
same_fits members n held peers others progress.Gathering same fits = λ h is. fits h (ap (λ f. f n) (same refl) ∙ is)
same_fits members n held peers others (progress.Fetching chosen source asked later) same fits = fits
same_fits members n held peers others (progress.Installing chosen acked) same fits = fits
same_fits members n held peers others (progress.Active c issued) same fits = fits

module _ (stripe : ℕ) (ops : ℕ × ℕ → Op) (members : List ℕ) (n : ℕ) where
  abbrev pub Leading : Seen → Led → Type 0
  Leading a led = LeadsTo stripe ops members n a led

  abbrev pub IsFit : Seen → Type 0
  IsFit a = Fit stripe ops members n a

  abbrev pub Node : NodeId
  Node = record { 0 = n }

  -- a row without a record: its steps, the peers and the progress after it, and what it reports and sends
  pub row : (z : Seen) (e : Epoch) (peers : List Peer) (p : Progress) (peers1 : List Peer) (p1 : Progress) (outs : List Msg) (marks : List Mark) (entries : List Entry) (steps : List Step)
      → IsFit (seen_in z (tenure_of e peers p)) → MayAll stripe ops members n (local_of (seen_in z (tenure_of e peers p))) steps
      → after_steps n (local_of (seen_in z (tenure_of e peers p))) steps ≡ local_of (record (seen_in z (tenure_of e peers1 p1)) { entries = entries })
      → AreTold stripe ops n marks z.entries entries → nodes_in peers1 ≡ members → ProgressFits members n z.kept.held peers1 p1
      → ((m : Msg) → Has m outs → (x : Message) → Has x (shown n m.payload) → Ready stripe ops members n (record (seen_in z (tenure_of e peers1 p1)) { entries = entries }) x)
      → ((q : Peer) → Has q peers1 → (x : Message) → Has x (shown_if n (last_sent z.kept.file e q.state)) → Ready stripe ops members n (record (seen_in z (tenure_of e peers1 p1)) { entries = entries }) x)
      → Leads stripe ops members n (seen_in z (tenure_of e peers p)) (Some (tenure_of e peers1 p1)) (record { rec = None; outs = outs; marks = marks })
  row z e peers p peers1 p1 outs marks entries steps fits may leads told listed progress sent fed =
      build stripe ops members n (seen_in z (tenure_of e peers p)) (tenure_of e peers1 p1) (record { rec = None; outs = outs; marks = marks }) (record {
        seen = record (seen_in z (tenure_of e peers1 p1)) { entries = entries };
        steps = steps;
        may = may;
        leads = leads;
        is_tenure = refl;
        grows = λ x h. h;
        calm = λ d h k. k;
        told = told;
        kept = refl;
        body = refl;
        holds = fits.tenure.0;
        names = fits.names;
        peers = listed;
        progress = progress;
        calm_marks = inl refl;
        steady = λ r. refl;
        outs = sent;
        fed = fed;
      })

  abbrev led_by : Seen → Primary → Local
  led_by z k = record { node = record { kept = z.kept; body = z.body; primary = k }; holder = z.holder; sent = z.sent; entries = z.entries }

  -- a peer's state is another one, and a message may go to it
  changes_peer : (z : Seen) (e : Epoch) (peers : List Peer) (p : Progress) (q : NodeId) (old state : PeerState) (outs : List Msg) → IsFit (seen_in z (tenure_of e peers p))
      → peer_in peers q ≡ Some old → (p ≡ progress.Gathering → reported (Some state) ≡ reported (Some old))
      → ((x : Message) → Has x (shown_if n (last_sent z.kept.file e state)) → Ready stripe ops members n (seen_in z (tenure_of e (with_peer peers q state) p)) x)
      → ((m : Msg) → Has m outs → (x : Message) → Has x (shown n m.payload) → Ready stripe ops members n (seen_in z (tenure_of e (with_peer peers q state) p)) x)
      → Leads stripe ops members n (seen_in z (tenure_of e peers p)) (Some (tenure_of e (with_peer peers q state) p)) (sends outs)
  changes_peer z e peers p q old state outs fits there same fed sent =
      row z e peers p peers1 p outs [] z.entries [] fits tt (ap (led_by z) (same_leads e peers peers1 p statuses)) refl (nodes_with peers q state ∙ fits.tenure.1.peers)
      (same_fits members n z.kept.held peers peers1 p statuses fits.tenure.1.progress) sent
      (with_ready stripe ops members n (seen_in z (tenure_of e peers1 p)) z.kept.file e peers q state fits.tenure.1.sent fed)
    where
      peers1 : List Peer
      peers1 = with_peer peers q state

      statuses : p ≡ progress.Gathering → statuses_of peers ≡ statuses_of peers1
      statuses is = statuses_kept peers q old state there (same is)

  -- ---- feeding

  no_target : {A : Type 0} (own : FileHead) (e : Epoch) (p : Progress) (target : FileHead) → target_in own e p ≡ Some target → p ≡ progress.Gathering → A
  no_target own e p target is gathers = absurd cc

  -- a peer is fed on
  feeds_on : (z : Seen) (e : Epoch) (peers : List Peer) (p : Progress) (q : NodeId) (old : PeerState) (target : FileHead) (known : List ObjectVersion) (learnt : ℕ) → IsFit (seen_in z (tenure_of e peers p))
      → peer_in peers q ≡ Some old → target_in z.kept.head e p ≡ Some target
      → Leading (seen_in z (tenure_of e peers p)) (feeds (ground_at stripe n z) learnt (tenure_of e peers p) q target known)
  feeds_on z e peers p q old target known learnt fits there is =
      changes_peer z e peers p q old state (if_any Node q (last_sent z.kept.file e state)) fits there (λ gathers. no_target z.kept.head e p target is gathers) ready
      (λ m h x k. ready x (if_any_shown n Node q (last_sent z.kept.file e state) m x h k))
    where
      state : PeerState
      state = fed z.body target known

      at : IsTarget stripe ops members n (seen_in z (tenure_of e (with_peer peers q state) p)) e target
      at = target_there stripe ops members n z e (with_peer peers q state) p target fits.names
          (same_fits members n z.kept.held peers (with_peer peers q state) p (λ gathers. no_target z.kept.head e p target is gathers) fits.tenure.1.progress) is

      ready : (x : Message) → Has x (shown_if n (last_sent z.kept.file e state)) → Ready stripe ops members n (seen_in z (tenure_of e (with_peer peers q state) p)) x
      ready = fed_ready stripe ops members n (seen_in z (tenure_of e (with_peer peers q state) p)) z.kept.file e target known at

  -- body staged
  staged : (z : Seen) (e : Epoch) (peers : List Peer) (p : Progress) (q : NodeId) (state : PeerState) (v : ObjectVersion) (learnt : ℕ) → IsFit (seen_in z (tenure_of e peers p)) → peer_in peers q ≡ Some state
      → (o : Option FileHead) → target_in z.kept.head e p ≡ o → Leading (seen_in z (tenure_of e peers p)) (body_staged (ground_at stripe n z) learnt (tenure_of e peers p) o q state v)
  staged z e peers p q (peer.Feeding known object version body) v learnt fits there (Some target) is = feeds_on z e peers p q (peer.Feeding known object version body) target (with_held known v) learnt fits there is
  staged z e peers p q (peer.Heading known head) v learnt fits there (Some target) is = feeds_on z e peers p q (peer.Heading known head) target (with_held known v) learnt fits there is
  staged z e peers p q peer.Unknown v learnt fits there (Some target) is = still stripe ops members n z (tenure_of e peers p) learnt fits
  staged z e peers p q (peer.Reported head) v learnt fits there (Some target) is = still stripe ops members n z (tenure_of e peers p) learnt fits
  staged z e peers p q peer.Current v learnt fits there (Some target) is = still stripe ops members n z (tenure_of e peers p) learnt fits
  staged z e peers p q state v learnt fits there None is = still stripe ops members n z (tenure_of e peers p) learnt fits

  -- body missed
  missed : (z : Seen) (e : Epoch) (peers : List Peer) (p : Progress) (q : NodeId) (state : PeerState) (v : ObjectVersion) (learnt : ℕ) → IsFit (seen_in z (tenure_of e peers p)) → peer_in peers q ≡ Some state
      → (o : Option FileHead) → target_in z.kept.head e p ≡ o → Leading (seen_in z (tenure_of e peers p)) (body_missed (ground_at stripe n z) learnt (tenure_of e peers p) o q state v)
  missed z e peers p q (peer.Heading known head) v learnt fits there (Some target) is = feeds_on z e peers p q (peer.Heading known head) target (without_version known v) learnt fits there is
  missed z e peers p q (peer.Feeding known object version body) v learnt fits there (Some target) is = still stripe ops members n z (tenure_of e peers p) learnt fits
  missed z e peers p q peer.Unknown v learnt fits there (Some target) is = still stripe ops members n z (tenure_of e peers p) learnt fits
  missed z e peers p q (peer.Reported head) v learnt fits there (Some target) is = still stripe ops members n z (tenure_of e peers p) learnt fits
  missed z e peers p q peer.Current v learnt fits there (Some target) is = still stripe ops members n z (tenure_of e peers p) learnt fits
  missed z e peers p q state v learnt fits there None is = still stripe ops members n z (tenure_of e peers p) learnt fits

  -- fetch missed, or body missed
  missing_comes : (z : Seen) (e : Epoch) (peers : List Peer) (p : Progress) (q : NodeId) (state : PeerState) (v : ObjectVersion) (learnt : ℕ) → IsFit (seen_in z (tenure_of e peers p)) → peer_in peers q ≡ Some state
      → Leading (seen_in z (tenure_of e peers p)) (hears_missing (ground_at stripe n z) learnt (tenure_of e peers p) p q state v)
  missing_comes z e peers (progress.Fetching chosen source asked later) q state v learnt fits there =
      by_test (λ b. Leading (seen_in z t) (cond b (draw_epoch (ground_at stripe n z).place learnt z.kept.head (nodes_of peers)) (unmoved learnt t))) (q.0 == source.0)
      (λ _. draws_anew stripe ops members n z t learnt fits) (λ _. still stripe ops members n z t learnt fits)
    where
      t : Tenure
      t = tenure_of e peers (progress.Fetching chosen source asked later)
  missing_comes z e peers progress.Gathering q state v learnt fits there = missed z e peers progress.Gathering q state v learnt fits there None refl
  missing_comes z e peers (progress.Installing chosen acked) q state v learnt fits there =
      missed z e peers (progress.Installing chosen acked) q state v learnt fits there (Some (target_of z.kept.head e chosen)) refl
  missing_comes z e peers (progress.Active c issued) q state v learnt fits there = missed z e peers (progress.Active c issued) q state v learnt fits there (Some z.kept.head) refl

  -- ---- fetching

  object_comes : (z : Seen) (e : Epoch) (peers : List Peer) (p : Progress) (q : NodeId) (object : ℕ) (version : Stamp) (bytes : List ℕ) (learnt : ℕ) → IsFit (seen_in z (tenure_of e peers p))
      → Has (Piece object version bytes) z.sent → Leading (seen_in z (tenure_of e peers p)) (hears_object (ground_at stripe n z) learnt (tenure_of e peers p) p q object version bytes)
  object_comes z e peers (progress.Fetching chosen source asked later) q object version bytes learnt fits has =
      by_test (λ b. (q.0 == source.0 && is_version asked (body_of object version)) ≡ b
      → Leading (seen_in z t) (cond b (take_body (ground_at stripe n z) learnt t chosen source later object version bytes) (unmoved learnt t))) (q.0 == source.0 && is_version asked (body_of object version))
      (λ _ is. body_comes stripe ops members n z e peers chosen source asked later object version bytes learnt fits (both_true (q.0 == source.0) (is_version asked (body_of object version)) is).1 has)
      (λ _ _. still stripe ops members n z t learnt fits) refl
    where
      t : Tenure
      t = tenure_of e peers (progress.Fetching chosen source asked later)
  object_comes z e peers progress.Gathering q object version bytes learnt fits has = still stripe ops members n z (tenure_of e peers progress.Gathering) learnt fits
  object_comes z e peers (progress.Installing chosen acked) q object version bytes learnt fits has = still stripe ops members n z (tenure_of e peers (progress.Installing chosen acked)) learnt fits
  object_comes z e peers (progress.Active c issued) q object version bytes learnt fits has = still stripe ops members n z (tenure_of e peers (progress.Active c issued)) learnt fits

  -- ---- acknowledgements

  -- while the head is installed
  head_acks : (z : Seen) (e : Epoch) (peers : List Peer) (chosen : FileHead) (acked : List NodeId) (q : NodeId) (old : PeerState) (stamp : Stamp) (newly : Bool) (learnt : ℕ)
      → IsFit (seen_in z (tenure_of e peers (progress.Installing chosen acked))) → peer_in peers q ≡ Some old → Has (Ack q.0 stamp) z.sent → stamp.epoch ≡ e
      → Leading (seen_in z (tenure_of e peers (progress.Installing chosen acked))) (hears_ack (ground_at stripe n z) learnt (tenure_of e peers (progress.Installing chosen acked)) (progress.Installing chosen acked) q newly stamp)
  head_acks z e peers chosen acked q old stamp false learnt fits there has same = still stripe ops members n z (tenure_of e peers (progress.Installing chosen acked)) learnt fits
  head_acks z e peers chosen acked q old stamp true learnt fits there has same =
      by_test (λ b. carries (ground_at stripe n z).place peers1 acked1 ≡ b → Leading (seen_in z t) (cond b (activated (ground_at stripe n z) learnt (tenure_of e peers1 (progress.Installing chosen acked)))
      (unmoved learnt (tenure_of e peers1 (progress.Installing chosen acked1))))) (carries (ground_at stripe n z).place peers1 acked1)
      (λ _ most. activates (both_true (nat_le (majority_among peers1) (length acked1)) (has_node acked1 n) most)) (λ _ _. counted) refl
    where
      t : Tenure
      t = tenure_of e peers (progress.Installing chosen acked)

      peers1 : List Peer
      peers1 = with_peer peers q peer.Current

      acked1 : List NodeId
      acked1 = with_node acked q

      listed : nodes_in peers1 ≡ members
      listed = nodes_with peers q peer.Current ∙ fits.tenure.1.peers

      acked_too : AckedFit members acked1
      acked_too = acked_fits members acked q (subst (Has q.0) fits.tenure.1.peers (peer_listed peers q old there)) fits.tenure.1.progress.1

      one : Step
      one = CountsInstalled e chosen (acked_by acked) q.0 stamp

      fed_by : (b : Seen) → b.sent ≡ z.sent → (p : Peer) → Has p peers1 → (x : Message) → Has x (shown_if n (last_sent z.kept.file e p.state)) → Ready stripe ops members n b x
      fed_by b is = with_ready stripe ops members n b z.kept.file e peers q peer.Current (subst (PeersSent n z.kept.file e peers) (sym is) fits.tenure.1.sent) (λ x h. absurd h)

      counted : Leading (seen_in z t) (unmoved learnt (tenure_of e peers1 (progress.Installing chosen acked1)))
      counted = row z e peers (progress.Installing chosen acked) peers1 (progress.Installing chosen acked1) [] [] z.entries (one ∷ []) fits ((refl, has, same), tt)
          (ap (λ f. led_by z (Installing e chosen f)) (acked_with acked q)) refl listed (fits.tenure.1.progress.0, acked_too) (λ m h. absurd h) (fed_by (seen_in z (tenure_of e peers1 (progress.Installing chosen acked1))) refl)

      activates : (nat_le (majority_among peers1) (length acked1) ≡ true) × (has_node acked1 n ≡ true) → Leading (seen_in z t) (activated (ground_at stripe n z) learnt (tenure_of e peers1 (progress.Installing chosen acked)))
      activates most = row z e peers (progress.Installing chosen acked) peers1 (progress.Active z.kept.head None) [] (mark.Active z.kept.file.number z.kept.head.stamp.count z.kept.head.last ∷ [])
          (TellsActive n z.kept.head.stamp.count (name_of z.kept.head.last) ∷ z.entries) (one ∷ Activates e chosen (with_acked (acked_by acked) q.0) ∷ []) fits
          ((refl, has, same), ((refl, subst (IsMost members) (sym (acked_with acked q)) (most_acked members peers1 acked1 listed acked_too most.0), ap (λ f. f n) (acked_with acked q) ∙ most.1), tt))
          refl refl listed tt (λ m h. absurd h)
          (fed_by (record (seen_in z (tenure_of e peers1 (progress.Active z.kept.head None))) { entries = TellsActive n z.kept.head.stamp.count (name_of z.kept.head.last) ∷ z.entries }) refl)

  -- while the primary is active
  write_acks : (z : Seen) (e : Epoch) (peers : List Peer) (c : FileHead) (issued : Option IssuedUpdate) (q : NodeId) (old : PeerState) (stamp : Stamp) (newly : Bool) (learnt : ℕ)
      → IsFit (seen_in z (tenure_of e peers (progress.Active c issued))) → peer_in peers q ≡ Some old → Has (Ack q.0 stamp) z.sent → stamp.epoch ≡ e
      → Leading (seen_in z (tenure_of e peers (progress.Active c issued))) (hears_ack (ground_at stripe n z) learnt (tenure_of e peers (progress.Active c issued)) (progress.Active c issued) q newly stamp)
  write_acks z e peers c issued q old stamp newly learnt fits there has same = by_newly newly
    where
      t : Tenure
      t = tenure_of e peers (progress.Active c issued)

      is_peer : Has q.0 members
      is_peer = subst (Has q.0) fits.tenure.1.peers (peer_listed peers q old there)

      -- with these peers
      below : (peers1 : List Peer) (new : Bool) → nodes_in peers1 ≡ members
          → ((b : Seen) → b.sent ≡ z.sent → (p : Peer) → Has p peers1 → (x : Message) → Has x (shown_if n (last_sent z.kept.file e p.state)) → Ready stripe ops members n b x)
          → (o : Option IssuedUpdate) → issued ≡ o → Leading (seen_in z t) (acked_below (ground_at stripe n z) learnt (tenure_of e peers1 (progress.Active c issued)) c q stamp new o)
      below peers1 new listed fed None is =
          row z e peers (progress.Active c issued) peers1 (progress.Active c issued) [] [] z.entries [] fits tt refl refl listed fits.tenure.1.progress (λ m h. absurd h)
          (fed (seen_in z (tenure_of e peers1 (progress.Active c issued))) refl)
      below peers1 new listed fed (Some i) is =
          subst (λ (o : Option IssuedUpdate). IsFit (seen_in z (tenure_of e peers (progress.Active c o)))
          → Leads stripe ops members n (seen_in z (tenure_of e peers (progress.Active c o)))
          (acked_below (ground_at stripe n z) learnt (tenure_of e peers1 (progress.Active c o)) c q stamp new (Some i)).primary.tenure
          (acked_below (ground_at stripe n z) learnt (tenure_of e peers1 (progress.Active c o)) c q stamp new (Some i)).turned) (sym is)
          (λ fit. by_test (λ b. is_below stamp i.update.stamp ≡ b → Leading (seen_in z t1) (cond (not b) (ack_update (ground_at stripe n z) learnt t2 c i.update (with_node i.acked q))
          (cond new (goes_on learnt t2 (sends (message Node q (payload.Update z.kept.file i.update) ∷ []))) (unmoved learnt t2)))) (is_below stamp i.update.stamp)
          (λ _ _. by_test (λ b. Leading (seen_in z t1) (cond b (goes_on learnt t2 (sends (message Node q (payload.Update z.kept.file i.update) ∷ []))) (unmoved learnt t2))) new
          (λ _. row z e peers (progress.Active c (Some i)) peers1 (progress.Active c (Some i)) (message Node q (payload.Update z.kept.file i.update) ∷ []) [] z.entries [] fit tt refl refl listed fit.tenure.1.progress update_goes (fed (seen_in z t2) refl))
          (λ _. row z e peers (progress.Active c (Some i)) peers1 (progress.Active c (Some i)) [] [] z.entries [] fit tt refl refl listed fit.tenure.1.progress (λ m h. absurd h) (fed (seen_in z t2) refl)))
          (λ _ above. by_test (λ b. carries (ground_at stripe n z).place peers1 acked1 ≡ b → Leading (seen_in z t1) (cond b (committed (ground_at stripe n z) learnt t2 i.update)
          (unmoved learnt (tenure_of e peers1 (progress.Active c (Some (record { update = i.update; acked = acked1 }))))))) (carries (ground_at stripe n z).place peers1 acked1)
          (λ _ most. commits fit above (both_true (nat_le (majority_among peers1) (length acked1)) (has_node acked1 n) most)) (λ _ _. counted fit above) refl) refl) fits
        where
          t1 : Tenure
          t1 = tenure_of e peers (progress.Active c (Some i))

          t2 : Tenure
          t2 = tenure_of e peers1 (progress.Active c (Some i))

          acked1 : List NodeId
          acked1 = with_node i.acked q

          one : Step
          one = CountsUpdated e c i.update (acked_by i.acked) q.0 stamp

          update_goes : (m : Msg) → Has m (message Node q (payload.Update z.kept.file i.update) ∷ []) → (x : Message) → Has x (shown n m.payload) → Ready stripe ops members n (seen_in z t2) x
          update_goes m (inl p) x k = goes (subst (λ (y : Msg). Has x (shown n y.payload)) p k)
            where
              goes : Has x (UpdateSent i.update ∷ []) → Ready stripe ops members n (seen_in z t2) x
              goes (inl g) = inl (subst (Sendable stripe ops members n (seen_in z t2)) (sym g) (update_sent stripe ops members n z e peers1 c i))
              goes (inr g) = absurd g
          update_goes m (inr h) x k = absurd h

          counted : IsFit (seen_in z t1) → is_below stamp i.update.stamp ≡ false
              → Leading (seen_in z t1) (unmoved learnt (tenure_of e peers1 (progress.Active c (Some (record { update = i.update; acked = acked1 })))))
          counted fit above = row z e peers (progress.Active c (Some i)) peers1 (progress.Active c (Some (record { update = i.update; acked = acked1 }))) [] [] z.entries (one ∷ []) fit ((refl, has, same, above), tt)
              (ap (λ f. led_by z (Active e c (Some i.update) f)) (acked_with i.acked q)) refl listed (acked_fits members i.acked q is_peer fit.tenure.1.progress) (λ m h. absurd h)
              (fed (seen_in z (tenure_of e peers1 (progress.Active c (Some (record { update = i.update; acked = acked1 }))))) refl)

          commits : IsFit (seen_in z t1) → is_below stamp i.update.stamp ≡ false → (nat_le (majority_among peers1) (length acked1) ≡ true) × (has_node acked1 n ≡ true)
              → Leading (seen_in z t1) (committed (ground_at stripe n z) learnt t2 i.update)
          commits fit above most = row z e peers (progress.Active c (Some i)) peers1 (progress.Active z.kept.head None) (answers Node z.kept.file i.update.id i.update.stamp.count i.update.mark []).outs
              (mark.Commit z.kept.file.number i.update.stamp.count i.update.id ∷ mark.Answer z.kept.file.number i.update.id i.update.stamp.count [] ∷ []) told (one ∷ Commits e c i.update (with_acked (acked_by i.acked) q.0) ∷ []) fit
              ((refl, has, same, above), ((refl, subst (IsMost members) (sym (acked_with i.acked q)) (most_acked members peers1 acked1 listed (acked_fits members i.acked q is_peer fit.tenure.1.progress) most.0), ap (λ f. f n) (acked_with i.acked q) ∙ most.1), tt))
              refl (WriteOk n i.update.stamp.count (name_of i.update.id), (refl, refl, refl, refl), refl) listed tt unshown (fed (record (seen_in z (tenure_of e peers1 (progress.Active z.kept.head None))) { entries = told }) refl)
            where
              told : List Entry
              told = WriteOk n i.update.stamp.count (name_of i.update.id) ∷ TellsCommit n i.update.stamp.count (name_of i.update.id) ∷ z.entries

              unshown : (m : Msg) → Has m (answers Node z.kept.file i.update.id i.update.stamp.count i.update.mark []).outs → (x : Message) → Has x (shown n m.payload)
                  → Ready stripe ops members n (record (seen_in z (tenure_of e peers1 (progress.Active z.kept.head None))) { entries = told }) x
              unshown m (inl p) x k = absurd (subst (λ (y : Msg). Has x (shown n y.payload)) p k)
              unshown m (inr h) x k = absurd h

      by_newly : (new : Bool) → Leading (seen_in z t) (acked_below (ground_at stripe n z) learnt (if new then with_state t q peer.Current else t) c q stamp new issued)
      by_newly true = below (with_peer peers q peer.Current) true (nodes_with peers q peer.Current ∙ fits.tenure.1.peers)
          (λ b is. with_ready stripe ops members n b z.kept.file e peers q peer.Current (subst (PeersSent n z.kept.file e peers) (sym is) fits.tenure.1.sent) (λ x h. absurd h)) issued refl
      by_newly false = below peers false fits.tenure.1.peers
          (λ b is. sent_ready stripe ops members n b z.kept.file e peers (subst (PeersSent n z.kept.file e peers) (sym is) fits.tenure.1.sent)) issued refl

  ack_comes : (z : Seen) (e : Epoch) (peers : List Peer) (p : Progress) (q : NodeId) (old : PeerState) (stamp : Stamp) (newly : Bool) (learnt : ℕ) → IsFit (seen_in z (tenure_of e peers p)) → peer_in peers q ≡ Some old
      → Has (Ack q.0 stamp) z.sent → stamp.epoch ≡ e → Leading (seen_in z (tenure_of e peers p)) (hears_ack (ground_at stripe n z) learnt (tenure_of e peers p) p q newly stamp)
  ack_comes z e peers (progress.Installing chosen acked) q old stamp newly learnt fits there has same = head_acks z e peers chosen acked q old stamp newly learnt fits there has same
  ack_comes z e peers (progress.Active c issued) q old stamp newly learnt fits there has same = write_acks z e peers c issued q old stamp newly learnt fits there has same
  ack_comes z e peers progress.Gathering q old stamp newly learnt fits there has same = still stripe ops members n z (tenure_of e peers progress.Gathering) learnt fits
  ack_comes z e peers (progress.Fetching chosen source asked later) q old stamp newly learnt fits there has same = still stripe ops members n z (tenure_of e peers (progress.Fetching chosen source asked later)) learnt fits

  -- ---- peer behind, and outpromised

  gather_goes : (z : Seen) (e : Epoch) (peers : List Peer) (p : Progress) (q : NodeId) (m : Msg) → Has m (message Node q (payload.Gather z.kept.file e) ∷ []) → (x : Message) → Has x (shown n m.payload)
      → Ready stripe ops members n (seen_in z (tenure_of e peers p)) x
  gather_goes z e peers p q m (inl same) x k = goes (subst (λ (y : Msg). Has x (shown n y.payload)) same k)
    where
      goes : Has x (Gather e ∷ []) → Ready stripe ops members n (seen_in z (tenure_of e peers p)) x
      goes (inl g) = inl (subst (Sendable stripe ops members n (seen_in z (tenure_of e peers p))) (sym g) (gather_sent stripe ops members n z e peers p))
      goes (inr g) = absurd g
  gather_goes z e peers p q m (inr h) x k = absurd h

  behind_comes : (z : Seen) (e : Epoch) (peers : List Peer) (p : Progress) (q : NodeId) (state : PeerState) (learnt : ℕ) → IsFit (seen_in z (tenure_of e peers p)) → peer_in peers q ≡ Some state
      → Leading (seen_in z (tenure_of e peers p)) (peer_behind (ground_at stripe n z) learnt (tenure_of e peers p) q state)
  behind_comes z e peers p q state learnt fits there =
      changes_peer z e peers p q state (forgotten state) (message Node q (payload.Gather z.kept.file e) ∷ []) fits there (λ _. as_before state) (λ x h. absurd (unsent state x h))
      (gather_goes z e (with_peer peers q (forgotten state)) p q)
    where
      as_before : (s : PeerState) → reported (Some (forgotten s)) ≡ reported (Some s)
      as_before (peer.Reported head) = refl
      as_before peer.Unknown = refl
      as_before (peer.Feeding known o v b) = refl
      as_before (peer.Heading known head) = refl
      as_before peer.Current = refl

      unsent : (s : PeerState) (x : Message) → Has x (shown_if n (last_sent z.kept.file e (forgotten s))) → ⊥
      unsent (peer.Reported head) x h = h
      unsent peer.Unknown x h = h
      unsent (peer.Feeding known o v b) x h = h
      unsent (peer.Heading known head) x h = h
      unsent peer.Current x h = h

  refused_comes : (z : Seen) (t : Tenure) (promised : Epoch) (learnt : ℕ) → IsFit (seen_in z t) → Leading (seen_in z t) (outpromised (ground_at stripe n z) learnt t promised)
  refused_comes z t promised learnt fits =
      by_test (λ b. Leading (seen_in z t) (cond b (draw_epoch (ground_at stripe n z).place (max learnt promised.number) z.kept.head (nodes_of t.peers)) (unmoved learnt t))) (is_earlier t.epoch promised)
      (λ _. draws_anew stripe ops members n z t (max learnt promised.number) fits) (λ _. still stripe ops members n z t learnt fits)

  -- ---- a message to a primary

  module _ (distinct : AreDistinct members) where
    -- a status of an unknown peer
    new_status : (z : Seen) (e : Epoch) (peers : List Peer) (p : Progress) (q : NodeId) (head : FileHead) (learnt : ℕ) → IsFit (seen_in z (tenure_of e peers p)) → peer_in peers q ≡ Some peer.Unknown
        → Has (Status q.0 e head) z.sent → (q.0 ≡ n → NamesHeld z.kept.held head.versions) → Leading (seen_in z (tenure_of e peers p)) (take_status (ground_at stripe n z) learnt (tenure_of e peers p) p q head)
    new_status z e peers progress.Gathering q head learnt fits there has mine = status_comes stripe ops members n distinct z e peers q head learnt fits there has mine
    new_status z e peers (progress.Fetching chosen source asked later) q head learnt fits there has mine =
        changes_peer z e peers (progress.Fetching chosen source asked later) q peer.Unknown (peer.Reported head) [] fits there (λ gathers. absurd cc) (λ x h. absurd h) (λ m h. absurd h)
    new_status z e peers (progress.Installing chosen acked) q head learnt fits there has mine =
        feeds_on z e peers (progress.Installing chosen acked) q peer.Unknown (target_of z.kept.head e chosen) (known_of_report head) learnt fits there refl
    new_status z e peers (progress.Active c issued) q head learnt fits there has mine = feeds_on z e peers (progress.Active c issued) q peer.Unknown z.kept.head (known_of_report head) learnt fits there refl

    status_heard : (z : Seen) (e : Epoch) (peers : List Peer) (p : Progress) (q : NodeId) (state : PeerState) (head : FileHead) (learnt : ℕ) → IsFit (seen_in z (tenure_of e peers p)) → peer_in peers q ≡ Some state
        → Has (Status q.0 e head) z.sent → (q.0 ≡ n → NamesHeld z.kept.held head.versions) → Leading (seen_in z (tenure_of e peers p)) (hears_status (ground_at stripe n z) learnt (tenure_of e peers p) q state head)
    status_heard z e peers p q peer.Unknown head learnt fits there has mine = new_status z e peers p q head learnt fits there has mine
    status_heard z e peers p q (peer.Reported h) head learnt fits there has mine = still stripe ops members n z (tenure_of e peers p) learnt fits
    status_heard z e peers p q (peer.Feeding known o v b) head learnt fits there has mine = still stripe ops members n z (tenure_of e peers p) learnt fits
    status_heard z e peers p q (peer.Heading known h) head learnt fits there has mine = still stripe ops members n z (tenure_of e peers p) learnt fits
    status_heard z e peers p q peer.Current head learnt fits there has mine = still stripe ops members n z (tenure_of e peers p) learnt fits

    peer_heard : (z : Seen) (e : Epoch) (peers : List Peer) (p : Progress) (q : NodeId) (state : PeerState) (content : Payload) (d : Epoch) (learnt : ℕ) → IsFit (seen_in z (tenure_of e peers p)) → peer_in peers q ≡ Some state
        → AreIn (shown q.0 content) z.sent → OwnFits n z.kept.held q content → message_epoch content ≡ Some d → d ≡ e → Leading (seen_in z (tenure_of e peers p)) (hears_peer (ground_at stripe n z) learnt (tenure_of e peers p) q state content)
    peer_heard z e peers p q state (payload.Status file k head) d learnt fits there came mine told same =
        status_heard z e peers p q state head learnt fits there (subst (λ (x : Epoch). Has (Status q.0 x head) z.sent) (some_is told ∙ same) came.0) mine
      where
        some_is : {a b : Epoch} → Some a ≡ Some b → a ≡ b
        some_is k = cc
    peer_heard z e peers p q state (payload.Object file k object version bytes) d learnt fits there came mine told same = object_comes z e peers p q object version bytes learnt fits came.0
    peer_heard z e peers p q state (payload.Staged file k object version) d learnt fits there came mine told same =
        staged z e peers p q state (body_of object version) learnt fits there (target_in z.kept.head e p) refl
    peer_heard z e peers p q state (payload.Missing file k object version) d learnt fits there came mine told same = missing_comes z e peers p q state (body_of object version) learnt fits there
    peer_heard z e peers p q state (payload.Ack file stamp) d learnt fits there came mine told same =
        ack_comes z e peers p q state stamp (makes_current (ground_at stripe n z).place q state stamp) learnt fits there came.0 (some_is told ∙ same)
      where
        some_is : {a b : Epoch} → Some a ≡ Some b → a ≡ b
        some_is k = cc
    peer_heard z e peers p q state (payload.Behind file k stamp) d learnt fits there came mine told same = behind_comes z e peers p q state learnt fits there
    peer_heard z e peers p q state (payload.Refused file k promised) d learnt fits there came mine told same = refused_comes z (tenure_of e peers p) promised learnt fits
    peer_heard z e peers p q state _ d learnt fits there came mine told same = absurd cc

    member_heard : (z : Seen) (e : Epoch) (peers : List Peer) (p : Progress) (q : NodeId) (o : Option PeerState) (content : Payload) (d : Epoch) (learnt : ℕ) → IsFit (seen_in z (tenure_of e peers p)) → peer_in peers q ≡ o
        → AreIn (shown q.0 content) z.sent → OwnFits n z.kept.held q content → message_epoch content ≡ Some d → d ≡ e → Leading (seen_in z (tenure_of e peers p)) (hears_member (ground_at stripe n z) learnt (tenure_of e peers p) q o content)
    member_heard z e peers p q None content d learnt fits there came mine told same = still stripe ops members n z (tenure_of e peers p) learnt fits
    member_heard z e peers p q (Some state) content d learnt fits there came mine told same = peer_heard z e peers p q state content d learnt fits there came mine told same

    epoch_heard : (z : Seen) (e : Epoch) (peers : List Peer) (p : Progress) (q : NodeId) (o : Option Epoch) (content : Payload) (learnt : ℕ) → IsFit (seen_in z (tenure_of e peers p)) → AreIn (shown q.0 content) z.sent
        → OwnFits n z.kept.held q content → message_epoch content ≡ o → Leading (seen_in z (tenure_of e peers p)) (hears_epoch (ground_at stripe n z) learnt (tenure_of e peers p) q o content)
    epoch_heard z e peers p q None content learnt fits came mine told = still stripe ops members n z (tenure_of e peers p) learnt fits
    epoch_heard z e peers p q (Some d) content learnt fits came mine told =
        by_test (λ b. is_epoch d e ≡ b → Leading (seen_in z (tenure_of e peers p)) (cond b (hears_member (ground_at stripe n z) learnt (tenure_of e peers p) q (peer_in peers q) content) (unmoved learnt (tenure_of e peers p)))) (is_epoch d e)
        (λ _ same. member_heard z e peers p q (peer_in peers q) content d learnt fits refl came mine told (same_is d e same)) (λ _ _. still stripe ops members n z (tenure_of e peers p) learnt fits) refl

    -- A message to a primary in its tenure, in its turn.
    pub primary_hears : (z : Seen) (t : Tenure) (from : NodeId) (content : Payload) (learnt : ℕ) → IsFit (seen_in z t) → AreIn (shown from.0 content) z.sent → OwnFits n z.kept.held from content
        → Leading (seen_in z t) (hears (ground_at stripe n z) (record { learnt = learnt; tenure = Some t }) from content)
    unfolding hears
    primary_hears z t from content learnt fits came mine = epoch_heard z t.epoch t.peers t.progress from (message_epoch content) content learnt fits came mine refl
