-- A primary's peers: one of them changed, and what is counted of them.
use Rattle.std.proofs.Common.{◌≡◌, ℕ, ◌⊎◌, List, [], ◌∷◌, refl, sym, ap, ◌∙◌, subst, inl, inr, if◌then◌else◌, ◌==◌, Some}
use Rattle.std.specs.Prelude.{cond}
use Rattle.xt_base.specs.declared.ids.NodeId.{NodeId}
use Rattle.xt_messages.specs.declared.file.FileHead.{FileHead}
use Rattle.xt_protocol.specs.Primaries.{peer_in, with_peer, reported}
use Rattle.xt_protocol.specs.declared.states.Peer.{Peer}
use Rattle.xt_protocol.specs.declared.states.PeerState.{PeerState}
use Rattle.xt_protocol.specs.declared.states.PeerState.TheVariants as peer
use Rattle.replica_safety.specs.Lists.{Has, AreDistinct}
use Rattle.replica_runs.specs.HeadSteps.{with_status}
use Rattle.replica_runs.proofs.Tools.{by_node, by_test}
use Rattle.replica_runs.specs.Seen.{statuses_of, nodes_in}

pub some_state : {a b : PeerState} → Some a ≡ Some b → a ≡ b
some_state p = cc

-- ---- one peer

-- where a node is a peer
pub record IsPeer (peers : List Peer) (node : ℕ) (state : PeerState) : Type 0 where
  pub one : Peer
  pub has : Has one peers
  pub is_node : one.node.0 ≡ node
  pub is_state : one.state ≡ state

later_peer : (p : Peer) (ps : List Peer) (node : ℕ) (state : PeerState) → IsPeer ps node state → IsPeer (p ∷ ps) node state
later_peer p ps node state is = record { one = is.one; has = inr is.has; is_node = is.is_node; is_state = is.is_state }

pub peer_found : (peers : List Peer) (q : NodeId) (state : PeerState) → peer_in peers q ≡ Some state → IsPeer peers q.0 state
unfolding peer_in
peer_found [] q state is = absurd cc
peer_found (p ∷ ps) q state is =
    by_node (λ b. cond b (Some p.state) (peer_in ps q) ≡ Some state → IsPeer (p ∷ ps) q.0 state) p.node.0 q.0
    (λ e k. record { one = p; has = inl refl; is_node = e; is_state = some_state k })
    (λ _ k. later_peer p ps q.0 state (peer_found ps q state k)) is

pub node_listed : (p : Peer) (peers : List Peer) → Has p peers → Has p.node.0 (nodes_in peers)
node_listed p [] h = absurd h
node_listed p (q ∷ ps) (inl e) = inl (ap (λ (x : Peer). x.node.0) e)
node_listed p (q ∷ ps) (inr h) = inr (node_listed p ps h)

pub peer_listed : (peers : List Peer) (q : NodeId) (state : PeerState) → peer_in peers q ≡ Some state → Has q.0 (nodes_in peers)
peer_listed peers q state is = let found = peer_found peers q state is in subst (λ m. Has m (nodes_in peers)) found.is_node (node_listed found.one peers found.has)

-- where no node stands twice each peer is found
pub peer_there : (peers : List Peer) (p : Peer) → AreDistinct (nodes_in peers) → Has p peers → peer_in peers p.node ≡ Some p.state
unfolding peer_in
peer_there [] p distinct h = absurd h
peer_there (q ∷ ps) p distinct (inl e) =
    subst (λ (x : Peer). cond (q.node.0 == x.node.0) (Some q.state) (peer_in ps x.node) ≡ Some x.state) (sym e)
    (by_node (λ b. cond b (Some q.state) (peer_in ps q.node) ≡ Some q.state) q.node.0 q.node.0 (λ _. refl) (λ ne. absurd (ne refl)))
peer_there (q ∷ ps) p distinct (inr h) =
    by_node (λ b. cond b (Some q.state) (peer_in ps p.node) ≡ Some p.state) q.node.0 p.node.0
    (λ e. absurd (distinct.0 (subst (λ m. Has m (nodes_in ps)) (sym e) (node_listed p ps h))))
    (λ _. peer_there ps p distinct.1 h)

-- ---- a peer's state changed

pub nodes_with : (peers : List Peer) (q : NodeId) (state : PeerState) → nodes_in (with_peer peers q state) ≡ nodes_in peers
unfolding with_peer
nodes_with [] q state = refl
nodes_with (p ∷ ps) q state =
    by_test (λ b. nodes_in (cond b (record { node = p.node; state = state } ∷ ps) (p ∷ with_peer ps q state)) ≡ nodes_in (p ∷ ps)) (p.node.0 == q.0)
    (λ _. refl) (λ _. ap (λ ns. p.node.0 ∷ ns) (nodes_with ps q state))

pub in_with : (peers : List Peer) (q : NodeId) (state : PeerState) (p : Peer) → Has p (with_peer peers q state) → Has p peers ⊎ (p.state ≡ state)
unfolding with_peer
in_with [] q state p h = absurd h
in_with (x ∷ ps) q state p h =
    by_test (λ b. Has p (cond b (record { node = x.node; state = state } ∷ ps) (x ∷ with_peer ps q state)) → Has p (x ∷ ps) ⊎ (p.state ≡ state)) (x.node.0 == q.0)
    (λ _ k. first k) (λ _ k. next k (in_with ps q state p)) h
  where
    first : Has p (record { node = x.node; state = state } ∷ ps) → Has p (x ∷ ps) ⊎ (p.state ≡ state)
    first (inl e) = inr (ap (λ (y : Peer). y.state) e)
    first (inr k) = inl (inr k)

    next : Has p (x ∷ with_peer ps q state) → (Has p (with_peer ps q state) → Has p ps ⊎ (p.state ≡ state)) → Has p (x ∷ ps) ⊎ (p.state ≡ state)
    next (inl e) rest = inl (inl e)
    next (inr k) rest = at (rest k)
      where
        at : Has p ps ⊎ (p.state ≡ state) → Has p (x ∷ ps) ⊎ (p.state ≡ state)
        at (inl g) = inl (inr g)
        at (inr e) = inr e

pub peer_in_with : (peers : List Peer) (q : NodeId) (old state : PeerState) (m : NodeId) → peer_in peers q ≡ Some old
    → peer_in (with_peer peers q state) m ≡ (if m.0 == q.0 then Some state else peer_in peers m)
unfolding peer_in with_peer
peer_in_with [] q old state m is = absurd cc
peer_in_with (p ∷ ps) q old state m is =
    by_node (λ b. cond b (Some p.state) (peer_in ps q) ≡ Some old
    → peer_in (cond b (record { node = p.node; state = state } ∷ ps) (p ∷ with_peer ps q state)) m ≡ (if m.0 == q.0 then Some state else cond (p.node.0 == m.0) (Some p.state) (peer_in ps m))) p.node.0 q.0
    (λ e _. by_node (λ b. cond b (Some state) (peer_in ps m) ≡ (if m.0 == q.0 then Some state else cond b (Some p.state) (peer_in ps m))) p.node.0 m.0
    (λ f. by_node (λ c. Some state ≡ (if c then Some state else Some p.state)) m.0 q.0 (λ _. refl) (λ ne. absurd (ne (sym f ∙ e))))
    (λ nf. by_node (λ c. peer_in ps m ≡ (if c then Some state else peer_in ps m)) m.0 q.0 (λ g. absurd (nf (e ∙ sym g))) (λ _. refl)))
    (λ ne k. by_node (λ b. cond b (Some p.state) (peer_in (with_peer ps q state) m) ≡ (if m.0 == q.0 then Some state else cond b (Some p.state) (peer_in ps m))) p.node.0 m.0
    (λ f. by_node (λ c. Some p.state ≡ (if c then Some state else Some p.state)) m.0 q.0 (λ g. absurd (ne (f ∙ g))) (λ _. refl))
    (λ _. peer_in_with ps q old state m k)) is

-- ---- statuses

-- a peer's status is counted
pub statuses_with : (peers : List Peer) (q : NodeId) (old : PeerState) (h : FileHead) → peer_in peers q ≡ Some old
    → with_status (statuses_of peers) q.0 h ≡ statuses_of (with_peer peers q (peer.Reported h))
statuses_with peers q old h is = λ i m. same m i
  where
    same : (m : ℕ) → with_status (statuses_of peers) q.0 h m ≡ statuses_of (with_peer peers q (peer.Reported h)) m
    same m = by_test (λ b. (if b then Some h else statuses_of peers m) ≡ reported (if b then Some (peer.Reported h) else peer_in peers (record { 0 = m }))) (m == q.0) (λ _. refl) (λ _. refl)
        ∙ sym (ap reported (peer_in_with peers q old (peer.Reported h) (record { 0 = m }) is))

-- a change of what was not reported to what isn't leaves the statuses
pub statuses_kept : (peers : List Peer) (q : NodeId) (old state : PeerState) → peer_in peers q ≡ Some old → reported (Some state) ≡ reported (Some old)
    → statuses_of peers ≡ statuses_of (with_peer peers q state)
statuses_kept peers q old state is kept = λ i m. same m i
  where
    same : (m : ℕ) → statuses_of peers m ≡ statuses_of (with_peer peers q state) m
    same m = by_node (λ b. reported (peer_in peers (record { 0 = m })) ≡ reported (if b then Some state else peer_in peers (record { 0 = m }))) m q.0
        (λ e. ap (λ k. reported (peer_in peers (record { 0 = k }))) e ∙ ap reported is ∙ sym kept) (λ _. refl)
        ∙ sym (ap reported (peer_in_with peers q old state (record { 0 = m }) is))
