-- one step of the search for a node among peers
use Rattle.std.proofs.Common.{◌≡◌, ℕ, ◌+◌, ◌<◌, ◌≤◌, List, [], ◌∷◌, ◌++◌, length, get_or, take, drop, Some, None, ap, ◌∙◌, sym, arith, drop-cons, add-one, append_assoc, zero, suc}
use Rattle.std.proofs.lemmas.List.{take_all, drop_all, append-nil}
use Rattle.std.proofs.lemmas.Grind.{common_steps}
use Rattle.std.proofs.Math.ListN.{set}
use Rattle.std.proofs.Math.Seq.{take-suc}
use Rattle.std.proofs.lemmas.List.{get_or_default}
use Rattle.xt_base.specs.declared.ids.NodeId.{NodeId}
use Rattle.xt_protocol.specs.declared.states.Peer.{Peer}
use Rattle.xt_protocol.specs.declared.states.PeerState.{PeerState}
use Rattle.xt_protocol.specs.Primaries.{peer_in, with_peer}

passed : (peers rest : List Peer) (i : ℕ) (d : Peer) → i < length peers → take i peers ++ (get_or peers i d ∷ rest) ≡ take (i + 1) peers ++ rest
passed peers rest i d lt =
    let e : take (i + 1) peers ≡ take i peers ++ (get_or peers i d ∷ []) = rw add-one (take-suc peers i d lt) in
    rw e (sym (append_assoc (take i peers) (get_or peers i d ∷ []) rest))

put : (peers : List Peer) (i : ℕ) (p d : Peer) → i < length peers → take i peers ++ (p ∷ drop (i + 1) peers) ≡ set peers i p
put [] i p d lt = grind arith
put (q ∷ peers) zero p d lt = grind (arith, common_steps)
put (q ∷ peers) (suc i) p d lt = grind (arith, common_steps, put peers i p d)

behind : (p : Peer) (rest : List Peer) (node : NodeId) (state : PeerState) → (p.node.0 ≡ node.0 → ⊥)
    → with_peer (p ∷ rest) node state ≡ p ∷ with_peer rest node state
unfolding with_peer
behind p rest node state ne = grind arith

at_peer : (p : Peer) (rest : List Peer) (node : NodeId) (state : PeerState) → p.node.0 ≡ node.0
    → with_peer (p ∷ rest) node state ≡ record { node = node; state = state } ∷ rest
unfolding with_peer
at_peer p rest node state here = grind arith

pub peer_passed : (peers : List Peer) (node : NodeId) (state : PeerState) (i : ℕ) (d : Peer)
    → i < length peers → d ≡ get_or peers i d → (d.node.0 ≡ node.0 → ⊥)
    → with_peer peers node state ≡ take i peers ++ with_peer (drop i peers) node state
    → with_peer peers node state ≡ take (i + 1) peers ++ with_peer (drop (i + 1) peers) node state
peer_passed peers node state i d lt is other h =
    let ne : ((get_or peers i d).node.0 ≡ node.0 → ⊥) = λ same. other (ap (λ p. p.node.0) is ∙ same) in
    let e : drop i peers ≡ get_or peers i d ∷ drop (i + 1) peers = rw add-one (drop-cons peers i d lt) in
    h
    ∙ ap (λ rest. take i peers ++ with_peer rest node state) e
    ∙ ap (λ rest. take i peers ++ rest) (behind (get_or peers i d) (drop (i + 1) peers) node state ne)
    ∙ passed peers (with_peer (drop (i + 1) peers) node state) i d lt

pub peer_here : (peers : List Peer) (node : NodeId) (state : PeerState) (i : ℕ) (d : Peer)
    → i < length peers → d ≡ get_or peers i d → d.node.0 ≡ node.0
    → with_peer peers node state ≡ take i peers ++ with_peer (drop i peers) node state
    → with_peer peers node state ≡ set peers i (record { node = node; state = state })
peer_here peers node state i d lt is same h =
    let here : (get_or peers i d).node.0 ≡ node.0 = sym (ap (λ p. p.node.0) is) ∙ same in
    let e : drop i peers ≡ get_or peers i d ∷ drop (i + 1) peers = rw add-one (drop-cons peers i d lt) in
    h
    ∙ ap (λ rest. take i peers ++ with_peer rest node state) e
    ∙ ap (λ rest. take i peers ++ rest) (at_peer (get_or peers i d) (drop (i + 1) peers) node state here)
    ∙ put peers i (record { node = node; state = state }) d lt

pub no_peer_here : (peers : List Peer) (node : NodeId) (state : PeerState) (i : ℕ) → length peers ≤ i
    → with_peer peers node state ≡ take i peers ++ with_peer (drop i peers) node state
    → with_peer peers node state ≡ peers
unfolding with_peer
no_peer_here peers node state i le h =
    h
    ∙ ap (λ rest. take i peers ++ with_peer rest node state) (drop_all i peers le)
    ∙ append-nil (take i peers)
    ∙ take_all i peers le

found_behind : (p : Peer) (rest : List Peer) (node : NodeId) → (p.node.0 ≡ node.0 → ⊥) → peer_in (p ∷ rest) node ≡ peer_in rest node
unfolding peer_in
found_behind p rest node ne = grind arith

found_first : (p : Peer) (rest : List Peer) (node : NodeId) → p.node.0 ≡ node.0 → peer_in (p ∷ rest) node ≡ Some p.state
unfolding peer_in
found_first p rest node here = grind arith

-- it isn't this one
pub not_this_one : (peers : List Peer) (node : NodeId) (i : ℕ) (d : Peer) → i < length peers → d ≡ get_or peers i d → (d.node.0 ≡ node.0 → ⊥)
    → peer_in peers node ≡ peer_in (drop i peers) node → peer_in peers node ≡ peer_in (drop (i + 1) peers) node
not_this_one peers node i d lt is other h =
    let ne : ((get_or peers i d).node.0 ≡ node.0 → ⊥) = λ same. other (ap (λ p. p.node.0) is ∙ same) in
    let e : drop i peers ≡ get_or peers i d ∷ drop (i + 1) peers = rw add-one (drop-cons peers i d lt) in
    h ∙ ap (λ rest. peer_in rest node) e ∙ found_behind (get_or peers i d) (drop (i + 1) peers) node ne

-- it is this one
pub this_one : (peers : List Peer) (node : NodeId) (i : ℕ) (d : Peer) → i < length peers → d ≡ get_or peers i d → d.node.0 ≡ node.0
    → peer_in peers node ≡ peer_in (drop i peers) node → (e : Peer) → peer_in peers node ≡ Some (get_or peers i e).state
this_one peers node i d lt is same h other =
    let here : (get_or peers i d).node.0 ≡ node.0 = sym (ap (λ p. p.node.0) is) ∙ same in
    let e : drop i peers ≡ get_or peers i d ∷ drop (i + 1) peers = rw add-one (drop-cons peers i d lt) in
    h
    ∙ ap (λ rest. peer_in rest node) e
    ∙ found_first (get_or peers i d) (drop (i + 1) peers) node here
    ∙ ap (λ (p : Peer). Some p.state) (get_or_default peers i d other lt)

-- it is none
pub no_such_one : (peers : List Peer) (node : NodeId) (i : ℕ) → length peers ≤ i → peer_in peers node ≡ peer_in (drop i peers) node → peer_in peers node ≡ None
unfolding peer_in
no_such_one peers node i le h = h ∙ ap (λ rest. peer_in rest node) (drop_all i peers le)
