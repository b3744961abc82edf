-- A tenure begins, a head is chosen, its bodies are fetched, and it is installed.
use Rattle.std.proofs.Common.{◌≡◌, ℕ, ◌⊎◌, Bool, true, false, List, [], ◌∷◌, refl, sym, ap, ◌∙◌, subst, inl, inr, arith, if◌then◌else◌, ◌==◌, Option, Some, None}
use Rattle.std.specs.Prelude.{cond, not, map, nat_lt, nat_le}
use Rattle.std.proofs.lemmas.Bool.Decides.{nat_tests}
use Rattle.xt_base.specs.declared.TheConstants.{COUNTS}
use Rattle.xt_base.specs.declared.ids.NodeId.{NodeId}
use Rattle.xt_base.specs.declared.ids.Epoch.{Epoch}
use Rattle.xt_base.specs.declared.ids.Stamp.{Stamp}
use Rattle.xt_messages.specs.declared.file.FileHead.{FileHead}
use Rattle.xt_messages.specs.declared.file.ObjectVersion.{ObjectVersion}
use Rattle.xt_messages.specs.declared.file.Op.{Op}
use Rattle.xt_messages.specs.declared.message.Msg.{Msg}
use Rattle.xt_messages.specs.declared.message.Payload.TheVariants as payload
use Rattle.xt_messages.specs.declared.record.Record.{Record}
use Rattle.xt_messages.specs.declared.record.Record.TheVariants as kept
use Rattle.xt_protocol.specs.declared.turned.Turned.{Turned}
use Rattle.xt_protocol.specs.Folds.{body_of}
use Rattle.xt_protocol.specs.Stamps.{is_version, has_version, with_held}
use Rattle.xt_protocol.proofs.Stamps.{version-equal}
use Rattle.xt_protocol.specs.Choice.{chosen_of, difference}
use Rattle.xt_protocol.specs.Primaries.{Led, Ground, peer_in, with_peer, unknown_peer, nodes_of, reported, reports_of, majority_among, statuses_counted, target_of, last_sent, if_any, last_to_each, known_of_own}
use Rattle.xt_protocol.specs.PrimaryRows.{goes_on, unmoved, epoch_above, draw_epoch, feed_peers, installs, fetches, chooses, status_counted, body_beyond, after_keeping, take_body}
use Rattle.xt_protocol.specs.ReplicaRows.{kept_after}
use Rattle.xt_protocol.specs.Turns.{quiet, message, to_each}
use Rattle.xt_protocol.specs.declared.states.Peer.{Peer}
use Rattle.xt_protocol.specs.declared.states.PeerState.{PeerState}
use Rattle.xt_protocol.specs.declared.states.PeerState.TheVariants as peer
use Rattle.xt_protocol.specs.declared.states.Progress.{Progress}
use Rattle.xt_protocol.specs.declared.states.Progress.TheVariants as progress
use Rattle.xt_protocol.specs.declared.states.Tenure.{Tenure}
use Rattle.replica_safety.specs.Epochs.{AtMost}
use Rattle.replica_safety.specs.Lists.{Has, AreDistinct}
use Rattle.replica_runs.specs.HeadSteps.{Step, Loses, Draws, KeepsBody, CountsStatus, Chooses, IsChosen, nobody, with_status, with_acted, MayAll, after_steps}
use Rattle.replica_runs.specs.HeadWorld.{Message, Gather, Head, Status, Piece, shown, shown_if, Gathering, Local, Primary}
use Rattle.replica_runs.specs.Steps.{without}
use Rattle.replica_runs.proofs.HeldVersions.{held_new, held_more}
use Rattle.replica_runs.proofs.Tools.{true_false, by_node, by_test}
use Rattle.replica_runs.specs.Seen.{Seen, local_of, ground_at, AreIn, NamesHeld, PeersSent, AckedFit, nodes_in, statuses_of, Fits, Leads}
use Rattle.replica_runs.proofs.Choices.{IsBest, chosen_is, report_from, report_there}
use Rattle.replica_runs.proofs.Counts.{most_told}
use Rattle.replica_runs.proofs.Feeding.{tenure_of, seen_in, if_any_shown, IsTarget, target_chosen, sent_ready, with_ready, fed_nodes, all_fed}
use Rattle.replica_runs.proofs.Peers.{in_with, peer_found, peer_there, nodes_with, statuses_with}
use Rattle.replica_runs.proofs.Sending.{Sendable, IsReady, Core, build, flat_has, map_has}

nodes_again : (peers : List Peer) → map (λ (k : NodeId). k.0) (nodes_of peers) ≡ nodes_in peers
nodes_again [] = refl
nodes_again (p ∷ ps) = ap (λ ns. p.node.0 ∷ ns) (nodes_again ps)

nodes_unknown : (ms : List NodeId) → nodes_in (map unknown_peer ms) ≡ map (λ (k : NodeId). k.0) ms
nodes_unknown [] = refl
nodes_unknown (m ∷ ms) = ap (λ ns. m.0 ∷ ns) (nodes_unknown ms)

-- nothing is counted of unknown peers
none_told : (ms : List NodeId) → nobody ≡ statuses_of (map unknown_peer ms)
unfolding peer_in
none_told ms = λ i m. same ms m i
  where
    same : (ns : List NodeId) (m : ℕ) → None ≡ statuses_of (map unknown_peer ns) m
    same [] m = refl
    same (k ∷ ns) m = by_test (λ b. None ≡ reported (cond b (Some peer.Unknown) (peer_in (map unknown_peer ns) (record { 0 = m })))) (k.0 == m) (λ _. refl) (λ _. same ns m)

-- each version is known, or wanted
known_or_wanted : (known vs : List ObjectVersion) (v : ObjectVersion) → Has v vs → (has_version known v ≡ true) ⊎ Has v (difference known vs)
unfolding difference
known_or_wanted known [] v h = absurd h
known_or_wanted known (w ∷ vs) v h = at (has_version known w) refl h (known_or_wanted known vs v)
  where
    at : (b : Bool) → has_version known w ≡ b → Has v (w ∷ vs) → (Has v vs → (has_version known v ≡ true) ⊎ Has v (difference known vs))
        → (has_version known v ≡ true) ⊎ Has v (cond (not b) (w ∷ difference known vs) (difference known vs))
    at true is (inl p) rest = inl (subst (λ (x : ObjectVersion). has_version known x ≡ true) (sym p) is)
    at true is (inr k) rest = rest k
    at false is (inl p) rest = inr (inl p)
    at false is (inr k) rest = either (rest k)
      where
        either : (has_version known v ≡ true) ⊎ Has v (difference known vs) → (has_version known v ≡ true) ⊎ Has v (w ∷ difference known vs)
        either (inl q) = inl q
        either (inr q) = inr (inr q)

pub not_after_loss : (n : ℕ) (h : Option ℕ) → without n h ≡ Some n → ⊥
not_after_loss n None e = absurd cc
not_after_loss n (Some m) e = by_node (λ b. (if b then None else Some m) ≡ Some n → ⊥) m n (λ _ k. absurd cc) (λ ne k. ne (some_is k)) e
  where
    some_is : {a b : ℕ} → Some a ≡ Some b → a ≡ b
    some_is p = cc

-- without a record
keeps_none : (g : Ground) (learnt : ℕ) (t : Tenure) (chosen : FileHead) (source : NodeId) (wanted : List ObjectVersion)
    → after_keeping None (fetches g learnt t chosen source wanted) ≡ fetches g learnt t chosen source wanted
keeps_none g learnt t chosen source [] = refl
keeps_none g learnt t chosen source (v ∷ later) = refl

-- what is held after a body was staged
pub staged_held : (held versions : List ObjectVersion) (v : ObjectVersion) → NamesHeld held versions → NamesHeld (with_held held v) versions
staged_held held versions v are w h = held_more held v w (are w h)

module _ (stripe : ℕ) (ops : ℕ × ℕ → Op) (members : List ℕ) (n : ℕ) where
  abbrev pub LeadsTo : Seen → Led → Type 0
  LeadsTo a led = Leads stripe ops members n a led.primary.tenure led.turned

  abbrev pub Fit : Seen → Type 0
  Fit a = Fits members n a

  abbrev pub Ready : Seen → Message → Type 0
  Ready a x = IsReady stripe ops members n a x

  -- nothing happens
  pub still : (z : Seen) (t : Tenure) (learnt : ℕ) → Fit (seen_in z t) → LeadsTo (seen_in z t) (unmoved learnt t)
  still z t learnt fits = record {
    behind = seen_in z t;
    shows = record { steps = []; may = tt; leads = refl; outs = λ m h. absurd h; grows = λ x h. h; told = refl };
    kept = refl;
    body = refl;
    is_tenure = refl;
    fits = fits;
    calm = inl refl;
    steady = λ r. refl;
  }

  -- ---- epoch drawn

  drawn_core : (z : Seen) (learnt : ℕ) (ms : List NodeId) → z.holder ≡ Some n → NamesHeld z.kept.held z.kept.head.versions
      → map (λ (k : NodeId). k.0) ms ≡ members
      → Core stripe ops members n z (tenure_of (epoch_above (ground_at stripe n z).place learnt z.kept.head) (map unknown_peer ms) progress.Gathering)
      (record {
        rec = Some (kept.Promise z.kept.file (epoch_above (ground_at stripe n z).place learnt z.kept.head));
        outs = to_each (record { 0 = n }) ms (payload.Gather z.kept.file (epoch_above (ground_at stripe n z).place learnt z.kept.head));
        marks = [];
      })
  drawn_core z learnt ms held names are = record {
    seen = b;
    steps = Draws learnt ∷ [];
    may = (held, tt);
    leads = ap (λ (f : ℕ → Option FileHead). with_primary_of (Gathering e f)) (none_told ms);
    is_tenure = refl;
    grows = λ x h. inr h;
    calm = λ d h k. calm d h k;
    told = refl;
    kept = refl;
    body = refl;
    holds = held;
    names = names;
    peers = nodes_unknown ms ∙ are;
    progress = λ h is. absurd (cc (sym (ap (λ f. f n) (none_told ms)), is));
    calm_marks = inr tt;
    steady = λ r. true_false r refl;
    outs = λ m h x k. outs (map_has (λ (to : NodeId). message (record { 0 = n }) to (payload.Gather z.kept.file e)) ms m h) x k;
    fed = λ p h x k. unfed (map_has unknown_peer ms p h) x k;
  }
    where
      e : Epoch
      e = epoch_above (ground_at stripe n z).place learnt z.kept.head

      b : Seen
      b = record {
        kept = record z.kept { head = record z.kept.head { promised = e } };
        body = z.body;
        tenure = Some (tenure_of e (map unknown_peer ms) progress.Gathering);
        holder = z.holder;
        sent = Gather e ∷ z.sent;
        entries = z.entries;
      }

      with_primary_of : Primary → Local
      with_primary_of p = record { node = record { kept = b.kept; body = b.body; primary = p }; holder = b.holder; sent = b.sent; entries = b.entries }

      calm : (d : Epoch) (h : FileHead) → Has (Status n d h) (Gather e ∷ z.sent) → Has (Status n d h) z.sent
      calm d h (inl p) = absurd cc
      calm d h (inr k) = k

      outs : {m : Msg} → (to : NodeId) × Has to ms × (m ≡ message (record { 0 = n }) to (payload.Gather z.kept.file e)) → (x : Message) → Has x (shown n m.payload) → Ready b x
      outs r x k = here (subst (λ (y : Msg). Has x (shown n y.payload)) r.2 k)
        where
          here : Has x (Gather e ∷ []) → Ready b x
          here (inl p) = inr (inl p)
          here (inr g) = absurd g

      unfed : {p : Peer} → (q : NodeId) × Has q ms × (p ≡ unknown_peer q) → (x : Message) → Has x (shown_if n (last_sent b.kept.file e p.state)) → Ready b x
      unfed r x k = absurd (subst (λ (q : Peer). Has x (shown_if n (last_sent b.kept.file e q.state))) r.2 k)

  -- without a number left the primary is idle, and holds no more
  spent : (z : Seen) (turned : Turned) → turned ≡ quiet → NamesHeld z.kept.held z.kept.head.versions
      → Leads stripe ops members n z None turned
  spent z turned is names = subst (Leads stripe ops members n z None) (sym is) (record {
    behind = record z { tenure = None; holder = without n z.holder };
    shows = record { steps = Loses ∷ []; may = (tt, tt); leads = refl; outs = λ m h. absurd h; grows = λ x h. h; told = refl };
    kept = refl;
    body = refl;
    is_tenure = refl;
    fits = record { names = names; tenure = not_after_loss n z.holder };
    calm = inl refl;
    steady = λ r. refl;
  })

  pub draws : (z : Seen) (learnt : ℕ) (ms : List NodeId) → z.holder ≡ Some n → NamesHeld z.kept.held z.kept.head.versions
      → map (λ (k : NodeId). k.0) ms ≡ members
      → LeadsTo z (draw_epoch (ground_at stripe n z).place learnt z.kept.head ms)
  unfolding draw_epoch
  draws z learnt ms held names are =
      by_test (λ b. LeadsTo z (cond b (goes_on learnt (tenure_of e (map unknown_peer ms) progress.Gathering)
      (record { rec = Some (kept.Promise z.kept.file e); outs = to_each (record { 0 = n }) ms (payload.Gather z.kept.file e); marks = [] }))
      (record { primary = record { learnt = learnt; tenure = None }; turned = quiet }))) (nat_lt e.number COUNTS)
      (λ _. build stripe ops members n z (tenure_of e (map unknown_peer ms) progress.Gathering)
      (record { rec = Some (kept.Promise z.kept.file e); outs = to_each (record { 0 = n }) ms (payload.Gather z.kept.file e); marks = [] })
      (drawn_core z learnt ms held names are))
      (λ _. spent z quiet refl names)
    where
      e : Epoch
      e = epoch_above (ground_at stripe n z).place learnt z.kept.head

  pub draws_anew : (z : Seen) (t : Tenure) (learnt : ℕ) → Fit (seen_in z t) → LeadsTo (seen_in z t) (draw_epoch (ground_at stripe n z).place learnt z.kept.head (nodes_of t.peers))
  draws_anew z t learnt fits = draws (seen_in z t) learnt (nodes_of t.peers) fits.tenure.0 fits.names (nodes_again t.peers ∙ fits.tenure.1.peers)

  -- ---- a chosen head

  -- the steps before the head is installed, or its next body is fetched: they lead to a primary that has chosen it
  pub record Before (a z : Seen) (e : Epoch) (peers : List Peer) (chosen : FileHead) (rec : Option Record) : Type 0 where
    pub steps : List Step
    pub may : MayAll stripe ops members n (local_of a) steps
    pub leads : after_steps n (local_of a) steps ≡ local_of (seen_in z (tenure_of e peers (progress.Installing chosen [])))
    pub same_sent : z.sent ≡ a.sent
    pub same_entries : a.entries ≡ z.entries
    pub kept : z.kept ≡ kept_after a.kept rec
    pub body : z.body ≡ body_beyond a.kept.file rec a.body
    pub holds : z.holder ≡ Some n
    pub names : NamesHeld z.kept.held z.kept.head.versions
    pub listed : nodes_in peers ≡ members
    pub sent : PeersSent n z.kept.file e peers z.sent

  -- installed
  pub installed : (a z : Seen) (e : Epoch) (peers : List Peer) (p : Progress) (chosen : FileHead) (rec : Option Record) (learnt : ℕ) → Before a z e peers chosen rec → NamesHeld z.kept.held chosen.versions
      → LeadsTo a (after_keeping rec (installs (ground_at stripe n z) learnt (tenure_of e peers p) chosen))
  installed a z e peers p chosen rec learnt b held =
      build stripe ops members n a t (record (installs (ground_at stripe n z) learnt (tenure_of e peers p) chosen).turned { rec = rec }) (record {
        seen = there;
        steps = b.steps;
        may = b.may;
        leads = b.leads;
        is_tenure = refl;
        grows = λ x h. subst (Has x) (sym b.same_sent) h;
        calm = λ d h k. subst (Has (Status n d h)) b.same_sent k;
        told = b.same_entries;
        kept = b.kept;
        body = b.body;
        holds = b.holds;
        names = b.names;
        peers = fed_nodes stripe ops members n z target peers ∙ b.listed;
        progress = (held, none_fit);
        calm_marks = inr tt;
        steady = λ r. true_false r refl;
        outs = outs;
        fed = all_fed stripe ops members n there e target peers is b.sent;
      })
    where
      target : FileHead
      target = target_of z.kept.head e chosen

      t : Tenure
      t = tenure_of e (feed_peers (ground_at stripe n z) target peers) (progress.Installing chosen [])

      there : Seen
      there = seen_in z t

      none_fit : AckedFit members []
      none_fit = omega arith

      is : IsTarget stripe ops members n there e target
      is = target_chosen stripe ops members n z e (feed_peers (ground_at stripe n z) target peers) chosen [] b.names held

      outs : (m : Msg) → Has m (message (record { 0 = n }) (record { 0 = n }) (payload.Head z.kept.file e target) ∷ last_to_each (ground_at stripe n z).place e (feed_peers (ground_at stripe n z) target peers))
          → (x : Message) → Has x (shown n m.payload) → Ready there x
      outs m (inl q) x k = own (subst (λ (y : Msg). Has x (shown n y.payload)) q k)
        where
          own : Has x (Head e target ∷ []) → Ready there x
          own (inl g) = inl (subst (Sendable stripe ops members n there) (sym g) is.sent)
          own (inr g) = absurd g
      outs m (inr h) x k =
          let r = flat_has (λ (q : Peer). if_any (record { 0 = n }) q.node (last_sent z.kept.file e q.state)) (feed_peers (ground_at stripe n z) target peers) m h in
          all_fed stripe ops members n there e target peers is b.sent r.0 r.1 x (if_any_shown n (record { 0 = n }) r.0.node (last_sent z.kept.file e r.0.state) m x r.2 k)

  -- the next body is fetched, or the head is installed
  pub fetched : (a z : Seen) (e : Epoch) (peers : List Peer) (p : Progress) (chosen : FileHead) (source : NodeId) (wanted : List ObjectVersion) (rec : Option Record) (learnt : ℕ) → Before a z e peers chosen rec
      → ((v : ObjectVersion) → Has v chosen.versions → (has_version z.kept.held v ≡ true) ⊎ Has v wanted)
      → LeadsTo a (after_keeping rec (fetches (ground_at stripe n z) learnt (tenure_of e peers p) chosen source wanted))
  fetched a z e peers p chosen source [] rec learnt b are = installed a z e peers p chosen rec learnt b held
    where
      held : NamesHeld z.kept.held chosen.versions
      held v h = of (are v h)
        where
          of : (has_version z.kept.held v ≡ true) ⊎ ⊥ → has_version z.kept.held v ≡ true
          of (inl k) = k
          of (inr k) = absurd k
  fetched a z e peers p chosen source (v ∷ later) rec learnt b are =
      build stripe ops members n a t (record (fetches (ground_at stripe n z) learnt (tenure_of e peers p) chosen source (v ∷ later)).turned { rec = rec }) (record {
        seen = seen_in z t;
        steps = b.steps;
        may = b.may;
        leads = b.leads;
        is_tenure = refl;
        grows = λ x h. subst (Has x) (sym b.same_sent) h;
        calm = λ d h k. subst (Has (Status n d h)) b.same_sent k;
        told = b.same_entries;
        kept = b.kept;
        body = b.body;
        holds = b.holds;
        names = b.names;
        peers = b.listed;
        progress = are;
        calm_marks = inr tt;
        steady = λ r. true_false r refl;
        outs = outs;
        fed = sent_ready stripe ops members n (seen_in z t) z.kept.file e peers b.sent;
      })
    where
      t : Tenure
      t = tenure_of e peers (progress.Fetching chosen source v later)

      -- a fetch says nothing
      outs : (m : Msg) → Has m (message (record { 0 = n }) source (payload.Fetch z.kept.file e v.object v.version) ∷ []) → (x : Message) → Has x (shown n m.payload) → Ready (seen_in z t) x
      outs m (inl q) x k = absurd (subst (λ (y : Msg). Has x (shown n y.payload)) q k)
      outs m (inr h) x k = absurd h

  -- ---- a status is counted

  module _ (distinct : AreDistinct members) where
    pub status_comes : (z : Seen) (e : Epoch) (peers : List Peer) (from : NodeId) (head : FileHead) (learnt : ℕ) → Fit (seen_in z (tenure_of e peers progress.Gathering))
        → peer_in peers from ≡ Some peer.Unknown → Has (Status from.0 e head) z.sent → (from.0 ≡ n → NamesHeld z.kept.held head.versions)
        → LeadsTo (seen_in z (tenure_of e peers progress.Gathering)) (status_counted (ground_at stripe n z) learnt (tenure_of e (with_peer peers from (peer.Reported head)) progress.Gathering))
    status_comes z e peers from head learnt fits unknown has mine =
        by_test (λ b. nat_le (majority_among peers1) (statuses_counted peers1) ≡ b → LeadsTo a (cond b (chooses g learnt t1 (reports_of peers1)) (unmoved learnt t1))) (nat_le (majority_among peers1) (statuses_counted peers1))
        (λ _ most. chosen_among most (reports_of peers1) refl) (λ _ _. counted) refl
      where
        a : Seen
        a = seen_in z (tenure_of e peers progress.Gathering)

        g : Ground
        g = ground_at stripe n z

        peers1 : List Peer
        peers1 = with_peer peers from (peer.Reported head)

        t1 : Tenure
        t1 = tenure_of e peers1 progress.Gathering

        told : ℕ → Option FileHead
        told = with_status (statuses_of peers) from.0 head

        told_too : told ≡ statuses_of peers1
        told_too = statuses_with peers from peer.Unknown head unknown

        new : statuses_of peers from.0 ≡ None
        new = ap reported unknown

        one : Step
        one = CountsStatus e (statuses_of peers) from.0 head

        listed : nodes_in peers1 ≡ members
        listed = nodes_with peers from (peer.Reported head) ∙ fits.tenure.1.peers

        -- the bodies of the reported own status are held
        own_told : (h : FileHead) → statuses_of peers1 n ≡ Some h → NamesHeld z.kept.held h.versions
        own_told h is = by_node (λ b. (if b then Some head else statuses_of peers n) ≡ Some h → NamesHeld z.kept.held h.versions) n from.0
            (λ same k. subst (λ (x : FileHead). NamesHeld z.kept.held x.versions) (some_is k) (mine (sym same)))
            (λ _ k. fits.tenure.1.progress h k) (ap (λ f. f n) told_too ∙ is)
          where
            some_is : {x y : FileHead} → Some x ≡ Some y → x ≡ y
            some_is p = cc

        with_statuses : (ℕ → Option FileHead) → Local
        with_statuses f = record { node = record { kept = z.kept; body = z.body; primary = Gathering e f }; holder = z.holder; sent = z.sent; entries = z.entries }

        fed : (p : Peer) → Has p peers1 → (x : Message) → Has x (shown_if n (last_sent z.kept.file e p.state)) → Ready (seen_in z t1) x
        fed = with_ready stripe ops members n (seen_in z t1) z.kept.file e peers from (peer.Reported head) fits.tenure.1.sent (λ x h. absurd h)

        sent_too : PeersSent n z.kept.file e peers1 z.sent
        sent_too p h = of (in_with peers from (peer.Reported head) p h)
          where
            of : Has p peers ⊎ (p.state ≡ peer.Reported head) → AreIn (shown_if n (last_sent z.kept.file e p.state)) z.sent
            of (inl k) = fits.tenure.1.sent p k
            of (inr same) = subst (λ s. AreIn (shown_if n (last_sent z.kept.file e s)) z.sent) (sym same) tt

        counted : LeadsTo a (unmoved learnt t1)
        counted = build stripe ops members n a t1 quiet (record {
          seen = seen_in z t1;
          steps = one ∷ [];
          may = ((refl, new, has), tt);
          leads = ap with_statuses told_too;
          is_tenure = refl;
          grows = λ x h. h;
          calm = λ d h k. k;
          told = refl;
          kept = refl;
          body = refl;
          holds = fits.tenure.0;
          names = fits.names;
          peers = listed;
          progress = own_told;
          calm_marks = inl refl;
          steady = λ r. refl;
          outs = λ m h. absurd h;
          fed = fed;
        })

        chosen_among : nat_le (majority_among peers1) (statuses_counted peers1) ≡ true → (reports : List (NodeId × FileHead)) → reports_of peers1 ≡ reports → LeadsTo a (chooses g learnt t1 reports)
        chosen_among most [] is = counted
        chosen_among most (first ∷ others) is =
            by_test (λ b. (best.0.0 == n) ≡ b → LeadsTo a (cond b (installs g learnt t1 best.1) (fetches g learnt t1 best.1 best.0 (difference (known_of_own g.held) best.1.versions)))) (best.0.0 == n)
            (λ _ own. installed a z e peers1 progress.Gathering best.1 None learnt before (own_told best.1 (ap (statuses_of peers1) (sym (number best.0.0 n own)) ∙ best_told)))
            (λ _ _. subst (LeadsTo a) (keeps_none g learnt t1 best.1 best.0 (difference (known_of_own g.held) best.1.versions))
            (fetched a z e peers1 progress.Gathering best.1 best.0 (difference (known_of_own g.held) best.1.versions) None learnt before (λ v h. known_or_wanted (known_of_own g.held) best.1.versions v h))) refl
          where
            best : NodeId × FileHead
            best = chosen_of (record { 0 = n }) first others

            is_best : IsBest first others best
            is_best = chosen_is (record { 0 = n }) first others

            number : (i j : ℕ) → (i == j) ≡ true → i ≡ j
            number i j same = grind (arith, nat_tests)

            best_told : statuses_of peers1 best.0.0 ≡ Some best.1
            best_told =
                let r = report_from peers1 best (subst (Has best) (sym is) is_best.one) in
                ap (λ (k : NodeId). reported (peer_in peers1 k)) r.2 ∙ ap reported (peer_there peers1 r.0 (subst AreDistinct (sym listed) distinct) r.1) ∙ r.3

            greatest : (m : ℕ) (x : FileHead) → statuses_of peers1 m ≡ Some x → AtMost x.stamp best.1.stamp
            greatest m x told_it = of (peer_in peers1 (record { 0 = m })) refl told_it
              where
                of : (o : Option PeerState) → peer_in peers1 (record { 0 = m }) ≡ o → reported o ≡ Some x → AtMost x.stamp best.1.stamp
                of None there k = absurd cc
                of (Some s) there k =
                    let found = peer_found peers1 (record { 0 = m }) s there in
                    is_best.greatest (found.one.node, x) (subst (Has (found.one.node, x)) is (report_there peers1 found.one x found.has (ap (λ y. reported (Some y)) found.is_state ∙ k)))

            is_chosen : IsChosen members told best.0.0 best.1
            is_chosen = subst (λ f. IsChosen members f best.0.0 best.1) (sym told_too) (record {
              most = most_told members peers1 distinct listed most;
              one = best_told;
              greatest = greatest;
            })

            before : Before a z e peers1 best.1 None
            before = record {
              steps = one ∷ Chooses e told best.0.0 best.1 ∷ [];
              may = ((refl, new, has), ((refl, is_chosen), tt));
              leads = refl;
              same_sent = refl;
              same_entries = refl;
              kept = refl;
              body = refl;
              holds = fits.tenure.0;
              names = fits.names;
              listed = listed;
              sent = sent_too;
            }

  -- ---- a body is fetched

  pub body_comes : (z : Seen) (e : Epoch) (peers : List Peer) (chosen : FileHead) (source : NodeId) (asked : ObjectVersion) (later : List ObjectVersion) (object : ℕ) (version : Stamp) (bytes : List ℕ) (learnt : ℕ)
      → Fit (seen_in z (tenure_of e peers (progress.Fetching chosen source asked later))) → is_version asked (body_of object version) ≡ true → Has (Piece object version bytes) z.sent
      → LeadsTo (seen_in z (tenure_of e peers (progress.Fetching chosen source asked later)))
      (take_body (ground_at stripe n z) learnt (tenure_of e peers (progress.Fetching chosen source asked later)) chosen source later object version bytes)
  body_comes z e peers chosen source asked later object version bytes learnt fits same has =
      by_test (λ b. has_version z.kept.held (body_of object version) ≡ b → LeadsTo a (let rec = cond b None (Some (kept.Stage z.kept.file object version bytes)) in
      after_keeping rec (fetches (record (ground_at stripe n z) { body = body_beyond z.kept.file rec z.body }) learnt (tenure_of e peers p) chosen source later))) (has_version z.kept.held (body_of object version))
      (λ _ held. had held) (λ _ new. keeps new) refl
    where
      p : Progress
      p = progress.Fetching chosen source asked later

      a : Seen
      a = seen_in z (tenure_of e peers p)

      is_asked : asked ≡ body_of object version
      is_asked = version-equal asked (body_of object version) same

      -- it was held
      had : has_version z.kept.held (body_of object version) ≡ true
          → LeadsTo a (after_keeping None (fetches (ground_at stripe n z) learnt (tenure_of e peers p) chosen source later))
      had held = fetched a z e peers p chosen source later None learnt (record {
        steps = [];
        may = tt;
        leads = refl;
        same_sent = refl;
        same_entries = refl;
        kept = refl;
        body = refl;
        holds = fits.tenure.0;
        names = fits.names;
        listed = fits.tenure.1.peers;
        sent = fits.tenure.1.sent;
      }) (λ v h. of v (fits.tenure.1.progress v h))
        where
          of : (v : ObjectVersion) → (has_version z.kept.held v ≡ true) ⊎ ((v ≡ asked) ⊎ Has v later) → (has_version z.kept.held v ≡ true) ⊎ Has v later
          of v (inl k) = inl k
          of v (inr (inl k)) = inl (subst (λ w. has_version z.kept.held w ≡ true) (sym (k ∙ is_asked)) held)
          of v (inr (inr k)) = inr k

      keeps : has_version z.kept.held (body_of object version) ≡ false
          → LeadsTo a (after_keeping (Some (kept.Stage z.kept.file object version bytes))
          (fetches (record (ground_at stripe n z) { body = body_beyond z.kept.file (Some (kept.Stage z.kept.file object version bytes)) z.body }) learnt (tenure_of e peers p) chosen source later))
      keeps new = fetched a z1 e peers p chosen source later (Some stage) learnt (record {
        steps = KeepsBody object version bytes ∷ [];
        may = (has, tt);
        leads = ap (λ b. with_acted n (local_of a) (record { rec = cond b None (Some stage); answer = None })) new;
        same_sent = refl;
        same_entries = refl;
        kept = refl;
        body = refl;
        holds = fits.tenure.0;
        names = staged_held z.kept.held z.kept.head.versions (body_of object version) fits.names;
        listed = fits.tenure.1.peers;
        sent = fits.tenure.1.sent;
      }) (λ v h. of v (fits.tenure.1.progress v h))
        where
          stage : Record
          stage = kept.Stage z.kept.file object version bytes

          z1 : Seen
          z1 = record z { kept = record z.kept { held = with_held z.kept.held (body_of object version) }; body = body_beyond z.kept.file (Some stage) z.body }

          of : (v : ObjectVersion) → (has_version z.kept.held v ≡ true) ⊎ ((v ≡ asked) ⊎ Has v later) → (has_version z1.kept.held v ≡ true) ⊎ Has v later
          of v (inl k) = inl (held_more z.kept.held (body_of object version) v k)
          of v (inr (inl k)) = inl (subst (λ w. has_version z1.kept.held w ≡ true) (sym (k ∙ is_asked)) (held_new z.kept.held (body_of object version)))
          of v (inr (inr k)) = inr k
