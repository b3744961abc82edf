-- The asks that wait, one after the other; what a row of a primary means for them; and what a wake sends again.
use Rattle.std.proofs.Common.{◌≡◌, ℕ, Bool, true, List, [], ◌∷◌, refl, sym, ap, ◌∙◌, subst, inl, inr, ◌&&◌, not, Option, Some, None}
use Rattle.std.specs.Prelude.{cond, is_some}
use Rattle.std.specs.List.{fold}
use Rattle.xt_base.specs.MemberList.{has_node}
use Rattle.xt_base.specs.declared.ids.NodeId.{NodeId}
use Rattle.xt_base.specs.declared.ids.Epoch.{Epoch}
use Rattle.xt_messages.specs.declared.file.FileHead.{FileHead}
use Rattle.xt_messages.specs.declared.file.Op.{Op}
use Rattle.xt_messages.specs.declared.message.Msg.{Msg}
use Rattle.xt_messages.specs.declared.message.Payload.{Payload}
use Rattle.xt_messages.specs.declared.message.Payload.TheVariants as payload
use Rattle.xt_protocol.specs.declared.turned.Turned.{Turned}
use Rattle.xt_protocol.specs.Asks.{Served, no_asks, stays, is_read, read_answer, write_done, serves, serves_waiting, serves_all, asks_behind, asks_follow}
use Rattle.xt_protocol.specs.Primaries.{Led, last_sent, if_any, is_ready}
use Rattle.xt_protocol.specs.Serving.{reads, reads_under, writes, gather_unknown, unacked, resend, to_peers, wakes_in, wakes}
use Rattle.xt_protocol.specs.Turns.{quiet, the_record, joined, message}
use Rattle.xt_protocol.specs.declared.states.Asks.{Asks}
use Rattle.xt_protocol.specs.declared.states.IssuedUpdate.{IssuedUpdate}
use Rattle.xt_protocol.specs.declared.states.Peer.{Peer}
use Rattle.xt_protocol.specs.declared.states.PeerState.{PeerState}
use Rattle.xt_protocol.specs.declared.states.PeerState.TheVariants as peer
use Rattle.xt_protocol.specs.declared.states.Progress.{Progress}
use Rattle.xt_protocol.specs.declared.states.Progress.TheVariants as progress
use Rattle.xt_protocol.specs.declared.states.Tenure.{Tenure}
use Rattle.xt_protocol.specs.declared.states.WaitingAsk.{WaitingAsk}
use Rattle.replica_safety.specs.Lists.{Has}
use Rattle.replica_runs.specs.HeadWorld.{Message, Gather, UpdateSent, shown, shown_if}
use Rattle.replica_runs.proofs.Tools.{by_test, both_true}
use Rattle.replica_runs.specs.AskFits.{AskFits}
use Rattle.replica_runs.specs.Seen.{Seen, ground_at, Fits, Leads}
use Rattle.replica_runs.proofs.Choosing.{LeadsTo, Ready}
use Rattle.replica_runs.proofs.Feeding.{tenure_of, seen_in, if_any_shown, gather_sent, update_sent, sent_ready}
use Rattle.replica_runs.proofs.Hearing.{IsFit, row}
use Rattle.replica_runs.proofs.Sending.{Sendable, flat_has}
use Rattle.replica_runs.proofs.Serving.{Quietly, compose, same_ground, read_serves, write_serves}

module _ (stripe : ℕ) (ops : ℕ × ℕ → Op) (members : List ℕ) (n : ℕ) where
  -- nothing is done
  pub rests : (a : Seen) → Fits members n a → Leads stripe ops members n a a.tenure quiet
  rests a fits = record {
    behind = a;
    shows = record { steps = []; may = tt; leads = refl; outs = λ m h. absurd h; grows = λ x h. h; told = refl };
    kept = refl;
    body = refl;
    is_tenure = refl;
    fits = fits;
    calm = inl refl;
    steady = λ r. refl;
  }

  -- ---- one ask

  read_done : (a : Seen) (learnt : ℕ) (o : Option Tenure) (ask : WaitingAsk) → a.tenure ≡ o → Fits members n a → AskFits stripe ops ask → is_read ask.op ≡ true
      → Quietly stripe ops members n a o (read_answer (ground_at stripe n a) ask.id (reads (ground_at stripe n a) (record { learnt = learnt; tenure = o }) ask.op))
  unfolding reads
  read_done a learnt None ask is fits of reads_it = record { lead = subst (λ o. Leads stripe ops members n a o quiet) is (rests a fits); none = refl }
  read_done a learnt (Some t) ask is fits of reads_it =
      subst (λ b. Quietly stripe ops members n b (Some t) (read_answer (ground_at stripe n a) ask.id (reads_under (ground_at stripe n a) (Some t) ask.op))) (sym whole)
      (read_serves stripe ops members n a t.epoch t.peers t.progress learnt ask (subst (Fits members n) whole fits) of reads_it)
    where
      whole : a ≡ seen_in a t
      whole = ap (λ o. record { kept = a.kept; body = a.body; tenure = o; holder = a.holder; sent = a.sent; entries = a.entries }) is

  write_led : (a : Seen) (learnt : ℕ) (o : Option Tenure) (ask : WaitingAsk) (led : Led) → a.tenure ≡ o → Fits members n a → AskFits stripe ops ask
      → writes (ground_at stripe n a) (record { learnt = learnt; tenure = o }) ask.id ask.epoch ask.op ≡ Some led → Quietly stripe ops members n a led.primary.tenure led.turned
  unfolding writes
  write_led a learnt None ask led is fits of made = absurd cc
  write_led a learnt (Some t) ask led is fits of made =
      subst (λ b. Quietly stripe ops members n b led.primary.tenure led.turned) (sym whole)
      (write_serves stripe ops members n a t.epoch t.peers t.progress learnt ask led (subst (Fits members n) whole fits) of made)
    where
      whole : a ≡ seen_in a t
      whole = ap (λ o. record { kept = a.kept; body = a.body; tenure = o; holder = a.holder; sent = a.sent; entries = a.entries }) is

  -- what was served so far
  abbrev pub IsServed : Seen → Served → Type 0
  IsServed a s = Quietly stripe ops members n a s.primary.tenure s.turned

  none_joined : (u v : Turned) → u.rec ≡ None → v.rec ≡ None → (joined u v).rec ≡ None
  none_joined u v first later = ap (λ r. the_record r v.rec) first ∙ later

  -- one row more, on the same ground
  more : (a : Seen) (t1 t2 : Option Tenure) (u v : Turned) → Quietly stripe ops members n a t1 u
      → ((b : Seen) → b.tenure ≡ t1 → Fits members n b → ground_at stripe n b ≡ ground_at stripe n a → Quietly stripe ops members n b t2 v) → Quietly stripe ops members n a t2 (joined u v)
  more a t1 t2 u v first next =
      let q = next first.lead.behind first.lead.is_tenure first.lead.fits (same_ground stripe ops members n a t1 u first.lead first.none) in
      record {
        lead = compose stripe ops members n a t1 t2 u v first.lead q.lead q.none first.none;
        none = none_joined u v first.none q.none;
      }

  served_write : (a : Seen) (s : Served) (ask : WaitingAsk) (left : Asks) (o : Option Led) → IsServed a s → AskFits stripe ops ask → writes (ground_at stripe n a) s.primary ask.id ask.epoch ask.op ≡ o → IsServed a (write_done s ask o left)
  served_write a s ask left None is of made = is
  served_write a s ask left (Some led) is of made =
      more a s.primary.tenure led.primary.tenure s.turned led.turned is (λ b tenure fits same. write_led b s.primary.learnt s.primary.tenure ask led tenure fits of
      (ap (λ g. writes g s.primary ask.id ask.epoch ask.op) same ∙ made))

  -- an ask is served: a read, or a write
  pub serves_one : (a : Seen) (s : Served) (ask : WaitingAsk) (left : Asks) → IsServed a s → AskFits stripe ops ask → IsServed a (serves (ground_at stripe n a) s ask left)
  serves_one a s ask left is of =
      by_test (λ b. is_read ask.op ≡ b → IsServed a (cond b (record s { turned = joined s.turned (read_answer (ground_at stripe n a) ask.id (reads (ground_at stripe n a) s.primary ask.op)) })
      (write_done s ask (writes (ground_at stripe n a) s.primary ask.id ask.epoch ask.op) left))) (is_read ask.op)
      (λ _ reads_it. more a s.primary.tenure s.primary.tenure s.turned (read_answer (ground_at stripe n a) ask.id (reads (ground_at stripe n a) s.primary ask.op)) is
      (λ b tenure fits same. subst (λ g. Quietly stripe ops members n b s.primary.tenure (read_answer g ask.id (reads g s.primary ask.op))) same (read_done b s.primary.learnt s.primary.tenure ask tenure fits of reads_it)))
      (λ _ _. served_write a s ask left (writes (ground_at stripe n a) s.primary ask.id ask.epoch ask.op) is of refl) refl

  -- all that wait, in order
  each_served : (a : Seen) (waiting : List WaitingAsk) (s : Served) → IsServed a s → ((w : WaitingAsk) → Has w waiting → AskFits stripe ops w) → IsServed a (fold (serves_waiting (ground_at stripe n a)) s waiting)
  each_served a [] s is of = is
  each_served a (ask ∷ waiting) s is of =
      each_served a waiting (serves_waiting (ground_at stripe n a) s ask)
      (by_test (λ b. IsServed a (cond b (record s { asks = stays s.asks ask }) (serves (ground_at stripe n a) s ask (stays s.asks ask)))) (not (is_read ask.op) && is_some s.asks.issued)
      (λ _. is) (λ _. serves_one a s ask (stays s.asks ask) is (of ask (inl refl)))) (λ w h. of w (inr h))

  pub all_served : (a : Seen) (learnt : ℕ) (t : Option Tenure) (waiting : List WaitingAsk) → a.tenure ≡ t → Fits members n a → ((w : WaitingAsk) → Has w waiting → AskFits stripe ops w)
      → IsServed a (serves_all (ground_at stripe n a) (record { learnt = learnt; tenure = t }) waiting)
  unfolding serves_all
  all_served a learnt t waiting is fits of =
      each_served a waiting (record { primary = record { learnt = learnt; tenure = t }; asks = no_asks; turned = quiet })
      (record { lead = subst (λ o. Leads stripe ops members n a o quiet) is (rests a fits); none = refl }) of

  -- A row of the primary, and what it means for the asks.
  pub follows : (a : Seen) (before : Option Tenure) (asks : Asks) (led : Led) → LeadsTo stripe ops members n a led → ((w : WaitingAsk) → Has w asks.waiting → AskFits stripe ops w)
      → Leads stripe ops members n a (asks_follow (ground_at stripe n a) before asks led).primary.tenure (asks_follow (ground_at stripe n a) before asks led).turned
  follows a before asks led lead of =
      by_test (λ b. (is_ready led.primary.tenure && not (is_ready before)) ≡ b
      → Leads stripe ops members n a (followed b).primary.tenure (followed b).turned) (is_ready led.primary.tenure && not (is_ready before))
      (λ _ is. served (both_true (is_ready led.primary.tenure) (not (is_ready before)) is).0) (λ _ _. lead) refl
    where
      all : Served
      all = serves_all (ground_at stripe n a) led.primary asks.waiting

      followed : Bool → Served
      followed b = cond b (record all { turned = joined led.turned all.turned }) (record { primary = led.primary; asks = asks_behind led.primary.tenure asks; turned = led.turned })

      served : is_ready led.primary.tenure ≡ true → Leads stripe ops members n a all.primary.tenure (joined led.turned all.turned)
      served ready =
          let none = lead.steady ready in
          let q : Quietly stripe ops members n lead.behind all.primary.tenure all.turned =
          subst (λ g. Quietly stripe ops members n lead.behind (serves_all g led.primary asks.waiting).primary.tenure (serves_all g led.primary asks.waiting).turned)
          (same_ground stripe ops members n a led.primary.tenure led.turned lead none)
          (all_served lead.behind led.primary.learnt led.primary.tenure asks.waiting lead.is_tenure lead.fits of) in
          compose stripe ops members n a led.primary.tenure all.primary.tenure led.turned all.turned lead q.lead q.none none

  -- ---- wakes

  -- what is sent to the peers is ready
  wakes_row : (z : Seen) (e : Epoch) (peers : List Peer) (p : Progress) (content : NodeId → PeerState → Option Payload) → IsFit stripe ops members n (seen_in z (tenure_of e peers p))
      → ((q : Peer) → Has q peers → (x : Message) → Has x (shown_if n (content q.node q.state)) → Ready stripe ops members n (seen_in z (tenure_of e peers p)) x)
      → Leads stripe ops members n (seen_in z (tenure_of e peers p)) (Some (tenure_of e peers p)) (to_peers (ground_at stripe n z).place peers content)
  wakes_row z e peers p content fits ready =
      row stripe ops members n z e peers p peers p (to_peers (ground_at stripe n z).place peers content).outs [] z.entries [] fits tt refl refl fits.tenure.1.peers fits.tenure.1.progress outs
      (sent_ready stripe ops members n (seen_in z (tenure_of e peers p)) z.kept.file e peers fits.tenure.1.sent)
    where
      outs : (m : Msg) → Has m (to_peers (ground_at stripe n z).place peers content).outs → (x : Message) → Has x (shown n m.payload) → Ready stripe ops members n (seen_in z (tenure_of e peers p)) x
      outs m h x k =
          let r = flat_has (λ (q : Peer). if_any (record { 0 = n }) q.node (content q.node q.state)) peers m h in
          ready r.0 r.1 x (if_any_shown n (record { 0 = n }) r.0.node (content r.0.node r.0.state) m x r.2 k)

  gather_ready : (z : Seen) (e : Epoch) (peers : List Peer) (p : Progress) (x : Message) → Has x (Gather e ∷ []) → Ready stripe ops members n (seen_in z (tenure_of e peers p)) x
  gather_ready z e peers p x (inl g) = inl (subst (Sendable stripe ops members n (seen_in z (tenure_of e peers p))) (sym g) (gather_sent stripe ops members n z e peers p))
  gather_ready z e peers p x (inr g) = absurd g

  unknown_ready : (z : Seen) (e : Epoch) (peers : List Peer) (q : NodeId) (s : PeerState) (x : Message) → Has x (shown_if n (gather_unknown (ground_at stripe n z).place e q s)) → Ready stripe ops members n (seen_in z (tenure_of e peers progress.Gathering)) x
  unknown_ready z e peers q peer.Unknown x h = gather_ready z e peers progress.Gathering x h
  unknown_ready z e peers q (peer.Reported head) x h = absurd h
  unknown_ready z e peers q (peer.Feeding known o v b) x h = absurd h
  unknown_ready z e peers q (peer.Heading known head) x h = absurd h
  unknown_ready z e peers q peer.Current x h = absurd h

  again_ready : (z : Seen) (e : Epoch) (peers : List Peer) (p : Progress) (issued : Option IssuedUpdate) (q : NodeId) (s : PeerState) (x : Message)
      → (Has x (shown_if n (last_sent z.kept.file e s)) → Ready stripe ops members n (seen_in z (tenure_of e peers p)) x)
      → (Has x (shown_if n (unacked z.kept.file q issued)) → Ready stripe ops members n (seen_in z (tenure_of e peers p)) x)
      → Has x (shown_if n (resend (ground_at stripe n z).place e issued q s)) → Ready stripe ops members n (seen_in z (tenure_of e peers p)) x
  again_ready z e peers p issued q peer.Unknown x last update h = gather_ready z e peers p x h
  again_ready z e peers p issued q peer.Current x last update h = update h
  again_ready z e peers p issued q (peer.Reported head) x last update h = last h
  again_ready z e peers p issued q (peer.Feeding known o v b) x last update h = last h
  again_ready z e peers p issued q (peer.Heading known head) x last update h = last h

  update_ready : (z : Seen) (e : Epoch) (peers : List Peer) (c : FileHead) (issued : Option IssuedUpdate) (q : NodeId) (x : Message) → Has x (shown_if n (unacked z.kept.file q issued))
      → Ready stripe ops members n (seen_in z (tenure_of e peers (progress.Active c issued))) x
  update_ready z e peers c None q x h = absurd h
  update_ready z e peers c (Some i) q x h =
      by_test (λ b. Has x (shown_if n (cond b None (Some (payload.Update z.kept.file i.update)))) → Ready stripe ops members n (seen_in z (tenure_of e peers (progress.Active c (Some i)))) x) (has_node i.acked q.0)
      (λ _ k. absurd k) (λ _ k. goes k) h
    where
      goes : Has x (UpdateSent i.update ∷ []) → Ready stripe ops members n (seen_in z (tenure_of e peers (progress.Active c (Some i)))) x
      goes (inl g) = inl (subst (Sendable stripe ops members n (seen_in z (tenure_of e peers (progress.Active c (Some i))))) (sym g) (update_sent stripe ops members n z e peers c i))
      goes (inr g) = absurd g

  -- Wakes: who hasn't answered is sent the same again.
  pub wakes_again : (z : Seen) (t : Tenure) (learnt : ℕ) → IsFit stripe ops members n (seen_in z t) → Leads stripe ops members n (seen_in z t) (Some t) (wakes (ground_at stripe n z).place (record { learnt = learnt; tenure = Some t }))
  unfolding wakes
  wakes_again z t learnt fits = by_progress t.progress fits
    where
      by_progress : (p : Progress) → IsFit stripe ops members n (seen_in z (tenure_of t.epoch t.peers p))
          → Leads stripe ops members n (seen_in z (tenure_of t.epoch t.peers p)) (Some (tenure_of t.epoch t.peers p)) (wakes_in (ground_at stripe n z).place (tenure_of t.epoch t.peers p) p)
      by_progress progress.Gathering fit = wakes_row z t.epoch t.peers progress.Gathering (gather_unknown (ground_at stripe n z).place t.epoch) fit (λ q h x k. unknown_ready z t.epoch t.peers q.node q.state x k)
      by_progress (progress.Fetching chosen source asked later) fit =
          row stripe ops members n z t.epoch t.peers (progress.Fetching chosen source asked later) t.peers (progress.Fetching chosen source asked later)
          (message (record { 0 = n }) source (payload.Fetch z.kept.file t.epoch asked.object asked.version) ∷ []) [] z.entries [] fit tt refl refl fit.tenure.1.peers fit.tenure.1.progress
          unfetched (sent_ready stripe ops members n (seen_in z (tenure_of t.epoch t.peers (progress.Fetching chosen source asked later))) z.kept.file t.epoch t.peers fit.tenure.1.sent)
        where
          unfetched : (m : Msg) → Has m (message (record { 0 = n }) source (payload.Fetch z.kept.file t.epoch asked.object asked.version) ∷ []) → (x : Message) → Has x (shown n m.payload)
              → Ready stripe ops members n (seen_in z (tenure_of t.epoch t.peers (progress.Fetching chosen source asked later))) x
          unfetched m (inl same) x k = absurd (subst (λ (y : Msg). Has x (shown n y.payload)) same k)
          unfetched m (inr h) x k = absurd h
      by_progress (progress.Installing chosen acked) fit = wakes_row z t.epoch t.peers (progress.Installing chosen acked) (resend (ground_at stripe n z).place t.epoch None) fit
          (λ q h x k. again_ready z t.epoch t.peers (progress.Installing chosen acked) None q.node q.state x
          (sent_ready stripe ops members n (seen_in z (tenure_of t.epoch t.peers (progress.Installing chosen acked))) z.kept.file t.epoch t.peers fit.tenure.1.sent q h x) (λ g. absurd g) k)
      by_progress (progress.Active c issued) fit = wakes_row z t.epoch t.peers (progress.Active c issued) (resend (ground_at stripe n z).place t.epoch issued) fit
          (λ q h x k. again_ready z t.epoch t.peers (progress.Active c issued) issued q.node q.state x
          (sent_ready stripe ops members n (seen_in z (tenure_of t.epoch t.peers (progress.Active c issued))) z.kept.file t.epoch t.peers fit.tenure.1.sent q h x) (update_ready z t.epoch t.peers c issued q.node x) k)
