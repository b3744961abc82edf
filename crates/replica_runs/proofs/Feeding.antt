-- What a primary sends to the peers that it brings up to date may be sent.
use Rattle.std.proofs.Common.{◌≡◌, ℕ, ◌⊎◌, Bool, true, List, [], ◌∷◌, refl, sym, ap, subst, inl, inr, ◌==◌, not, Option, Some, None}
use Rattle.std.specs.Prelude.{cond, find}
use Rattle.xt_base.specs.declared.ids.NodeId.{NodeId}
use Rattle.xt_base.specs.declared.ids.FileId.{FileId}
use Rattle.xt_base.specs.declared.ids.Epoch.{Epoch}
use Rattle.xt_base.specs.declared.ids.Stamp.{Stamp}
use Rattle.xt_messages.specs.declared.file.FileHead.{FileHead}
use Rattle.xt_messages.specs.declared.file.ObjectVersion.{ObjectVersion}
use Rattle.xt_messages.specs.declared.file.Op.{Op}
use Rattle.xt_messages.specs.declared.file.Update.{Update}
use Rattle.xt_messages.specs.declared.message.Msg.{Msg}
use Rattle.xt_messages.specs.declared.message.Payload.{Payload}
use Rattle.xt_protocol.specs.Stamps.{is_epoch, has_version}
use Rattle.xt_protocol.specs.Primaries.{with_peer, known_of_report, fed_next, fed, last_sent, if_any, target_of}
use Rattle.xt_protocol.specs.PrimaryRows.{target_in, feed_peer, feed_peers}
use Rattle.xt_protocol.specs.declared.states.IssuedUpdate.{IssuedUpdate}
use Rattle.xt_protocol.specs.declared.states.Peer.{Peer}
use Rattle.xt_protocol.specs.declared.states.PeerState.{PeerState}
use Rattle.xt_protocol.specs.declared.states.PeerState.TheVariants as peer
use Rattle.xt_protocol.specs.declared.states.Progress.{Progress}
use Rattle.xt_protocol.specs.declared.states.Progress.TheVariants as progress
use Rattle.xt_protocol.specs.declared.states.Tenure.{Tenure}
use Rattle.replica_safety.specs.Lists.{Has}
use Rattle.replica_runs.specs.HeadSteps.{Step, SendsBody, SendsChosen, SendsOwn, SendsGather, SendsUpdate}
use Rattle.replica_runs.specs.HeadSteps as heads
use Rattle.replica_runs.specs.HeadWorld.{leads_in, Message, Gather, Head, UpdateSent, Piece, Status, shown, shown_if}
use Rattle.replica_runs.proofs.Tools.{by_test}
use Rattle.replica_runs.specs.Seen.{Seen, NamesHeld, PeersSent, ProgressFits, nodes_in, acked_by, leads_as, ground_at}
use Rattle.replica_runs.proofs.Peers.{in_with}
use Rattle.replica_runs.proofs.Sending.{Sendable, IsReady, in_are, map_has}

abbrev pub tenure_of : Epoch → List Peer → Progress → Tenure
tenure_of e peers p = record { epoch = e; peers = peers; progress = p }

-- what is seen, in a tenure
abbrev pub seen_in : Seen → Tenure → Seen
seen_in z t = record z { tenure = Some t }

-- a primary leads in its tenure's epoch
pub leads_there : (e : Epoch) (peers : List Peer) (p : Progress) → leads_in (leads_as e peers p) ≡ Some e
leads_there e peers progress.Gathering = refl
leads_there e peers (progress.Fetching chosen source asked later) = refl
leads_there e peers (progress.Installing chosen acked) = refl
leads_there e peers (progress.Active c None) = refl
leads_there e peers (progress.Active c (Some issued)) = refl

-- what is sent, where anything is
pub if_any_shown : (n : ℕ) (own to : NodeId) (content : Option Payload) (m : Msg) (x : Message) → Has m (if_any own to content) → Has x (shown n m.payload) → Has x (shown_if n content)
if_any_shown n own to None m x h k = absurd h
if_any_shown n own to (Some content) m x (inl p) k = subst (λ (y : Msg). Has x (shown n y.payload)) p k
if_any_shown n own to (Some content) m x (inr h) k = absurd h

find_has : (test : ObjectVersion → Bool) (vs : List ObjectVersion) (v : ObjectVersion) → find test vs ≡ Some v → Has v vs
find_has test [] v e = absurd cc
find_has test (w ∷ vs) v e =
    by_test (λ b. cond b (Some w) (find test vs) ≡ Some v → Has v (w ∷ vs)) (test w) (λ _ k. inl (sym (some_is k))) (λ _ k. inr (find_has test vs v k)) e
  where
    some_is : {a b : ObjectVersion} → Some a ≡ Some b → a ≡ b
    some_is p = cc

no_gather : (n : ℕ) (e d : Epoch) (h : FileHead) → Status n e h ≡ Gather d → ⊥
no_gather n e d h p = cc p

no_head : (n : ℕ) (e d : Epoch) (h g : FileHead) → Status n e h ≡ Head d g → ⊥
no_head n e d h g p = cc p

no_piece : (n : ℕ) (e : Epoch) (h : FileHead) (o : ℕ) (v : Stamp) (bytes : List ℕ) → Status n e h ≡ Piece o v bytes → ⊥
no_piece n e h o v bytes p = cc p

no_update : (n : ℕ) (e : Epoch) (h : FileHead) (u : Update) → Status n e h ≡ UpdateSent u → ⊥
no_update n e h u p = cc p

module _ (stripe : ℕ) (ops : ℕ × ℕ → Op) (members : List ℕ) (n : ℕ) where
  abbrev pub May_send : Seen → Message → Type 0
  May_send a x = Sendable stripe ops members n a x

  pub gather_sent : (z : Seen) (e : Epoch) (peers : List Peer) (p : Progress) → May_send (seen_in z (tenure_of e peers p)) (Gather e)
  gather_sent z e peers p = record { step = SendsGather e; may = λ sent. leads_there e peers p; gives = λ sent. refl; calm = λ d h. no_gather n d e h }

  pub own_sent : (z : Seen) (e : Epoch) (peers : List Peer) (p : Progress) → May_send (seen_in z (tenure_of e peers p)) (Head e z.kept.head)
  own_sent z e peers p = record { step = SendsOwn e; may = λ sent. leads_there e peers p; gives = λ sent. refl; calm = λ d h. no_head n d e h z.kept.head }

  chosen_sent : (z : Seen) (e : Epoch) (peers : List Peer) (chosen : FileHead) (acked : List NodeId)
      → May_send (seen_in z (tenure_of e peers (progress.Installing chosen acked))) (Head e (heads.target_of e chosen))
  chosen_sent z e peers chosen acked =
      record { step = SendsChosen e chosen (acked_by acked); may = λ sent. refl; gives = λ sent. refl; calm = λ d h. no_head n d e h (heads.target_of e chosen) }

  pub update_sent : (z : Seen) (e : Epoch) (peers : List Peer) (c : FileHead) (issued : IssuedUpdate) → May_send (seen_in z (tenure_of e peers (progress.Active c (Some issued)))) (UpdateSent issued.update)
  update_sent z e peers c issued =
      record { step = SendsUpdate e c issued.update (acked_by issued.acked); may = λ sent. refl; gives = λ sent. refl; calm = λ d h. no_update n d h issued.update }

  body_sent : (a : Seen) (v : ObjectVersion) → has_version a.kept.held v ≡ true → May_send a (Piece v.object v.version (a.body v.object v.version))
  body_sent a v held =
      record { step = SendsBody v.object v.version; may = λ sent. held; gives = λ sent. refl; calm = λ e h. no_piece n e h v.object v.version (a.body v.object v.version) }

  -- a head to which peers are brought: it may be sent, and its bodies are held
  pub record IsTarget (a : Seen) (e : Epoch) (target : FileHead) : Type 0 where
    pub sent : May_send a (Head e target)
    pub held : NamesHeld a.kept.held target.versions

  pub target_chosen : (z : Seen) (e : Epoch) (peers : List Peer) (chosen : FileHead) (acked : List NodeId) → NamesHeld z.kept.held z.kept.head.versions → NamesHeld z.kept.held chosen.versions
      → IsTarget (seen_in z (tenure_of e peers (progress.Installing chosen acked))) e (target_of z.kept.head e chosen)
  target_chosen z e peers chosen acked own held =
      by_test (λ b. IsTarget (seen_in z (tenure_of e peers (progress.Installing chosen acked))) e (cond b z.kept.head (heads.target_of e chosen))) (is_epoch z.kept.head.stamp.epoch e)
      (λ _. record { sent = own_sent z e peers (progress.Installing chosen acked); held = own })
      (λ _. record { sent = chosen_sent z e peers chosen acked; held = held })

  pub target_there : (z : Seen) (e : Epoch) (peers : List Peer) (p : Progress) (target : FileHead) → NamesHeld z.kept.held z.kept.head.versions → ProgressFits members n z.kept.held peers p
      → target_in z.kept.head e p ≡ Some target → IsTarget (seen_in z (tenure_of e peers p)) e target
  target_there z e peers progress.Gathering target own fits is = absurd cc
  target_there z e peers (progress.Fetching chosen source asked later) target own fits is = absurd cc
  target_there z e peers (progress.Installing chosen acked) target own fits is =
      subst (IsTarget (seen_in z (tenure_of e peers (progress.Installing chosen acked))) e) (some_is is) (target_chosen z e peers chosen acked own fits.0)
    where
      some_is : {a b : FileHead} → Some a ≡ Some b → a ≡ b
      some_is p = cc
  target_there z e peers (progress.Active c issued) target own fits is =
      subst (IsTarget (seen_in z (tenure_of e peers (progress.Active c issued))) e) (some_is is) (record { sent = own_sent z e peers (progress.Active c issued); held = own })
    where
      some_is : {a b : FileHead} → Some a ≡ Some b → a ≡ b
      some_is p = cc

  -- the message to a peer that is fed
  pub fed_ready : (a : Seen) (file : FileId) (e : Epoch) (target : FileHead) (known : List ObjectVersion) → IsTarget a e target
      → (x : Message) → Has x (shown_if n (last_sent file e (fed a.body target known))) → IsReady stripe ops members n a x
  unfolding fed
  fed_ready a file e target known is x h = at (find (λ v. not (has_version known v)) target.versions) refl h
    where
      at : (o : Option ObjectVersion) → find (λ v. not (has_version known v)) target.versions ≡ o
          → Has x (shown_if n (last_sent file e (fed_next a.body target known o))) → IsReady stripe ops members n a x
      at (Some v) found (inl p) = inl (subst (May_send a) (sym p) (body_sent a v (is.held v (find_has (λ w. not (has_version known w)) target.versions v found))))
      at (Some v) found (inr k) = absurd k
      at None found (inl p) = inl (subst (May_send a) (sym p) is.sent)
      at None found (inr k) = absurd k

  -- what was sent to a peer was sent
  pub sent_ready : (a : Seen) (file : FileId) (e : Epoch) (peers : List Peer) → PeersSent n file e peers a.sent → (p : Peer) → Has p peers
      → (x : Message) → Has x (shown_if n (last_sent file e p.state)) → IsReady stripe ops members n a x
  sent_ready a file e peers sent p h x k = inr (in_are (shown_if n (last_sent file e p.state)) a.sent (sent p h) x k)

  -- one peer's state changed
  pub with_ready : (a : Seen) (file : FileId) (e : Epoch) (peers : List Peer) (q : NodeId) (state : PeerState) → PeersSent n file e peers a.sent
      → ((x : Message) → Has x (shown_if n (last_sent file e state)) → IsReady stripe ops members n a x)
      → (p : Peer) → Has p (with_peer peers q state) → (x : Message) → Has x (shown_if n (last_sent file e p.state)) → IsReady stripe ops members n a x
  with_ready a file e peers q state sent ready p h x k = at (in_with peers q state p h)
    where
      at : Has p peers ⊎ (p.state ≡ state) → IsReady stripe ops members n a x
      at (inl g) = sent_ready a file e peers sent p g x k
      at (inr same) = ready x (subst (λ s. Has x (shown_if n (last_sent file e s))) same k)

  -- all that have reported are fed
  pub fed_nodes : (z : Seen) (target : FileHead) (peers : List Peer) → nodes_in (feed_peers (ground_at stripe n z) target peers) ≡ nodes_in peers
  fed_nodes z target [] = refl
  fed_nodes z target (p ∷ ps) = ap (λ ns. p.node.0 ∷ ns) (fed_nodes z target ps)

  pub all_fed : (a : Seen) (e : Epoch) (target : FileHead) (peers : List Peer) → IsTarget a e target → PeersSent n a.kept.file e peers a.sent
      → (p : Peer) → Has p (feed_peers (ground_at stripe n a) target peers) → (x : Message) → Has x (shown_if n (last_sent a.kept.file e p.state)) → IsReady stripe ops members n a x
  all_fed a e target peers is sent p h x k = at (map_has (λ (q : Peer). record { node = q.node; state = feed_peer (ground_at stripe n a) target q.node q.state }) peers p h)
    where
      new : (q : NodeId) (s : PeerState) → (Has x (shown_if n (last_sent a.kept.file e s)) → IsReady stripe ops members n a x)
          → Has x (shown_if n (last_sent a.kept.file e (feed_peer (ground_at stripe n a) target q s))) → IsReady stripe ops members n a x
      new q (peer.Reported head) old =
          by_test (λ b. Has x (shown_if n (last_sent a.kept.file e (cond b (peer.Reported head) (fed a.body target (known_of_report head))))) → IsReady stripe ops members n a x) (q.0 == n)
          (λ _ g. absurd g) (λ _ g. fed_ready a a.kept.file e target (known_of_report head) is x g)
      new q peer.Unknown old = old
      new q (peer.Feeding known o v b) old = old
      new q (peer.Heading known head) old = old
      new q peer.Current old = old

      at : (q : Peer) × Has q peers × (p ≡ record { node = q.node; state = feed_peer (ground_at stripe n a) target q.node q.state }) → IsReady stripe ops members n a x
      at r = new r.0.node r.0.state (sent_ready a a.kept.file e peers sent r.0 r.1 x) (subst (λ (z : Peer). Has x (shown_if n (last_sent a.kept.file e z.state))) r.2 k)
