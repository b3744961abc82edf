-- the messages of a node to itself among those that it sends
use Rattle.std.proofs.Common.{◌≡◌, ℕ, Bool, true, false, List, [], ◌∷◌, ◌++◌, map, refl, sym, ap, ap₂, subst, ◌∙◌, Option, Some, None}
use Rattle.std.specs.Prelude.{◌||◌, not, cond, ◌==◌, flat_map}
use Rattle.std.proofs.lemmas.Bool.{and_parts, eqb-true}
use Rattle.std.proofs.lemmas.List.Elements.{filter-append}
use Rattle.xt_base.specs.MemberList.{has_node, are_distinct}
use Rattle.xt_base.specs.declared.ids.NodeId.{NodeId}
use Rattle.xt_messages.specs.declared.message.Msg.{Msg}
use Rattle.xt_messages.specs.declared.message.Payload.{Payload}
use Rattle.xt_protocol.specs.declared.states.Peer.{Peer}
use Rattle.xt_protocol.specs.declared.states.PeerState.{PeerState}
use Rattle.xt_protocol.specs.declared.states.PeerState.TheVariants as peer
use Rattle.xt_protocol.specs.Turns.{message, to_each}
use Rattle.xt_protocol.specs.Primaries.{if_any, peer_in, with_peer, nodes_of, unknown_peer}
use Rattle.world_spec.specs.NodeSteps.{to_itself}
use Rattle.lease_runs.proofs.Tests.{same_node}
use Rattle.std.proofs.Common.{arith, append-nil}
use Rattle.std.proofs.lemmas.Bool.Decides.{nat_tests}
use Rattle.own_messages_wait.proofs.Standing.{IsUnfed}
use Rattle.own_messages_wait.proofs.Tests.{false_true}

-- a message of a node to itself, if any
abbrev pub token : NodeId → Option Payload → List Msg
token n None = []
token n (Some content) = message n n content ∷ []

pub mine-append : (n : NodeId) (xs ys : List Msg) → to_itself n (xs ++ ys) ≡ to_itself n xs ++ to_itself n ys
mine-append n xs ys = filter-append (λ (m : Msg). m.to.0 == n.0) xs ys

-- a message is the node's own where it goes to the node
pub mine-one : (n to : NodeId) (content : Payload) → to_itself n (message n to content ∷ []) ≡ token n (cond (to.0 == n.0) (Some content) None)
mine-one n to content = at (to.0 == n.0) refl
  where
    at : (b : Bool) → (to.0 == n.0) ≡ b → cond b (message n to content ∷ []) [] ≡ token n (cond b (Some content) None)
    at true is = ap (λ (k : NodeId). message n k content ∷ []) (same_node to n (eqb-true to.0 n.0 is))
    at false is = refl

pub mine-if : (n to : NodeId) (o : Option Payload) → to_itself n (if_any n to o) ≡ token n (cond (to.0 == n.0) o None)
mine-if n to None = at (to.0 == n.0)
  where
    at : (b : Bool) → [] ≡ token n (cond b None None)
    at true = refl
    at false = refl
mine-if n to (Some content) = mine-one n to content

itself : (n : NodeId) → (n.0 == n.0) ≡ true
itself n = grind (arith, nat_tests)

-- ---- to each of some nodes

others : (n x : NodeId) (xs : List NodeId) → (x.0 == n.0) ≡ true → has_node xs x.0 ≡ false → has_node xs n.0 ≡ false
others n x xs is none = subst (λ (k : ℕ). has_node xs k ≡ false) (eqb-true x.0 n.0 is) none

pub mine-none : (n : NodeId) (nodes : List NodeId) (content : Payload) → has_node nodes n.0 ≡ false → to_itself n (to_each n nodes content) ≡ []
mine-none n [] content none = refl
mine-none n (x ∷ xs) content none = at (x.0 == n.0) (λ isnt. mine-none n xs content isnt) none
  where
    at : (b : Bool) → (has_node xs n.0 ≡ false → to_itself n (to_each n xs content) ≡ []) → (b || has_node xs n.0) ≡ false → cond b (message n x content ∷ to_itself n (to_each n xs content)) (to_itself n (to_each n xs content)) ≡ []
    at true rest isnt = absurd (cc)
    at false rest isnt = rest isnt

pub mine-each : (n : NodeId) (nodes : List NodeId) (content : Payload) → are_distinct nodes ≡ true → to_itself n (to_each n nodes content) ≡ token n (cond (has_node nodes n.0) (Some content) None)
mine-each n [] content apart = refl
mine-each n (x ∷ xs) content apart = at (x.0 == n.0) refl (λ d. mine-each n xs content d)
  where
    parts : (not (has_node xs x.0) ≡ true) × (are_distinct xs ≡ true)
    parts = and_parts (not (has_node xs x.0)) (are_distinct xs) apart

    no_more : (b : Bool) → not b ≡ true → b ≡ false
    no_more true is = absurd (cc)
    no_more false is = refl

    at : (b : Bool) → (x.0 == n.0) ≡ b → (are_distinct xs ≡ true → to_itself n (to_each n xs content) ≡ token n (cond (has_node xs n.0) (Some content) None))
        → cond b (message n x content ∷ to_itself n (to_each n xs content)) (to_itself n (to_each n xs content)) ≡ token n (cond (b || has_node xs n.0) (Some content) None)
    at true is rest = ap₂ (λ (k : NodeId) (rest : List Msg). message n k content ∷ rest) (same_node x n (eqb-true x.0 n.0 is)) (mine-none n xs content (others n x xs is (no_more (has_node xs x.0) parts.0)))
    at false is rest = rest parts.1

-- ---- to each peer

-- what the own node is sent as a peer
abbrev pub of_peer : (NodeId → PeerState → Option Payload) → NodeId → Option PeerState → Option Payload
of_peer content n None = None
of_peer content n (Some state) = content n state

abbrev pub to_peers_of : NodeId → (NodeId → PeerState → Option Payload) → List Peer → List Msg
to_peers_of n content peers = flat_map (λ (p : Peer). if_any n p.node (content p.node p.state)) peers

module _ (n : NodeId) (content : NodeId → PeerState → Option Payload) where
  strangers : (peers : List Peer) → has_node (nodes_of peers) n.0 ≡ false → to_itself n (to_peers_of n content peers) ≡ []
  strangers [] none = refl
  strangers (p ∷ ps) none = at (p.node.0 == n.0) refl (λ isnt. strangers ps isnt) none
    where
      at : (b : Bool) → (p.node.0 == n.0) ≡ b → (has_node (nodes_of ps) n.0 ≡ false → to_itself n (to_peers_of n content ps) ≡ []) → (b || has_node (nodes_of ps) n.0) ≡ false → to_itself n (to_peers_of n content (p ∷ ps)) ≡ []
      at true is rest isnt = absurd (cc)
      at false is rest isnt =
          mine-append n (if_any n p.node (content p.node p.state)) (to_peers_of n content ps)
          ∙ ap₂ (λ (xs ys : List Msg). xs ++ ys) (mine-if n p.node (content p.node p.state) ∙ ap (λ (b : Bool). token n (cond b (content p.node p.state) None)) is) (rest isnt)

  pub mine-peers : (peers : List Peer) → are_distinct (nodes_of peers) ≡ true → to_itself n (to_peers_of n content peers) ≡ token n (of_peer content n (peer_in peers n))
  unfolding peer_in
  mine-peers [] apart = refl
  mine-peers (p ∷ ps) apart = at (p.node.0 == n.0) refl (λ d. mine-peers ps d)
    where
      parts : (not (has_node (nodes_of ps) p.node.0) ≡ true) × (are_distinct (nodes_of ps) ≡ true)
      parts = and_parts (not (has_node (nodes_of ps) p.node.0)) (are_distinct (nodes_of ps)) apart

      no_more : (b : Bool) → not b ≡ true → b ≡ false
      no_more true is = absurd (cc)
      no_more false is = refl

      nil : (xs : List Msg) → xs ++ [] ≡ xs
      nil xs = append-nil xs

      split : to_itself n (to_peers_of n content (p ∷ ps)) ≡ token n (cond (p.node.0 == n.0) (content p.node p.state) None) ++ to_itself n (to_peers_of n content ps)
      split = mine-append n (if_any n p.node (content p.node p.state)) (to_peers_of n content ps) ∙ ap (λ (xs : List Msg). xs ++ to_itself n (to_peers_of n content ps)) (mine-if n p.node (content p.node p.state))

      at : (b : Bool) → (p.node.0 == n.0) ≡ b → (are_distinct (nodes_of ps) ≡ true → to_itself n (to_peers_of n content ps) ≡ token n (of_peer content n (peer_in ps n)))
          → to_itself n (to_peers_of n content (p ∷ ps)) ≡ token n (of_peer content n (cond b (Some p.state) (peer_in ps n)))
      at true is rest =
          split ∙ ap (λ (b : Bool). token n (cond b (content p.node p.state) None) ++ to_itself n (to_peers_of n content ps)) is
          ∙ ap (λ (xs : List Msg). token n (content p.node p.state) ++ xs) (strangers ps (others n p.node (nodes_of ps) is (no_more (has_node (nodes_of ps) p.node.0) parts.0)))
          ∙ nil (token n (content p.node p.state))
          ∙ ap (λ (k : NodeId). token n (content k p.state)) (same_node p.node n (eqb-true p.node.0 n.0 is))
      at false is rest = split ∙ ap (λ (b : Bool). token n (cond b (content p.node p.state) None) ++ to_itself n (to_peers_of n content ps)) is ∙ rest parts.1

-- ---- the own node among the peers

pub put_same : (peers : List Peer) (n from : NodeId) (state old : PeerState) → (from.0 == n.0) ≡ true → peer_in peers n ≡ Some old → peer_in (with_peer peers from state) n ≡ Some state
unfolding peer_in with_peer
put_same [] n from state old is found = absurd (cc)
put_same (p ∷ ps) n from state old is found = at (p.node.0 == n.0) (p.node.0 == from.0) refl refl (λ f. put_same ps n from state old is f) found
  where
    one : from.0 ≡ n.0
    one = eqb-true from.0 n.0 is

    at : (a b : Bool) → (p.node.0 == n.0) ≡ a → (p.node.0 == from.0) ≡ b → (peer_in ps n ≡ Some old → peer_in (with_peer ps from state) n ≡ Some state) → cond a (Some p.state) (peer_in ps n) ≡ Some old
        → peer_in (cond b (record { node = p.node; state = state } ∷ ps) (p ∷ with_peer ps from state)) n ≡ Some state
    at true true here there rest found = ap (λ (c : Bool). cond c (Some state) (peer_in ps n)) here
    at true false here there rest found = absurd (false_true (sym there ∙ ap (λ (k : ℕ). p.node.0 == k) one ∙ here))
    at false true here there rest found = absurd (false_true (sym here ∙ ap (λ (k : ℕ). p.node.0 == k) (sym one) ∙ there))
    at false false here there rest found = ap (λ (c : Bool). cond c (Some p.state) (peer_in (with_peer ps from state) n)) here ∙ rest found

pub put_other : (peers : List Peer) (n from : NodeId) (state : PeerState) → (from.0 == n.0) ≡ false → peer_in (with_peer peers from state) n ≡ peer_in peers n
unfolding peer_in with_peer
put_other [] n from state apart = refl
put_other (p ∷ ps) n from state apart = at (p.node.0 == n.0) (p.node.0 == from.0) refl refl (put_other ps n from state apart)
  where
    clash : (p.node.0 == n.0) ≡ true → (p.node.0 == from.0) ≡ true → from.0 ≡ n.0
    clash here there = sym (eqb-true p.node.0 from.0 there) ∙ eqb-true p.node.0 n.0 here

    at : (a b : Bool) → (p.node.0 == n.0) ≡ a → (p.node.0 == from.0) ≡ b → peer_in (with_peer ps from state) n ≡ peer_in ps n
        → peer_in (cond b (record { node = p.node; state = state } ∷ ps) (p ∷ with_peer ps from state)) n ≡ cond a (Some p.state) (peer_in ps n)
    at true true here there rest = absurd (false_true (sym apart ∙ ap (λ (k : ℕ). k == n.0) (clash here there) ∙ itself n))
    at false true here there rest = ap (λ (c : Bool). cond c (Some state) (peer_in ps n)) here
    at true false here there rest = ap (λ (c : Bool). cond c (Some p.state) (peer_in (with_peer ps from state) n)) here
    at false false here there rest = ap (λ (c : Bool). cond c (Some p.state) (peer_in (with_peer ps from state) n)) here ∙ rest

-- nothing was sent to peers of which nothing is known
pub fresh_unfed : (nodes : List NodeId) (n : NodeId) → IsUnfed (peer_in (map unknown_peer nodes) n)
unfolding peer_in
fresh_unfed [] n = tt
fresh_unfed (x ∷ xs) n = at (x.0 == n.0) (fresh_unfed xs n)
  where
    at : (b : Bool) → IsUnfed (peer_in (map unknown_peer xs) n) → IsUnfed (cond b (Some peer.Unknown) (peer_in (map unknown_peer xs) n))
    at true rest = tt
    at false rest = rest
