-- Majorities: what a primary counts in its lists is a majority of the members.
use Rattle.std.proofs.Common.{◌≡◌, ℕ, suc, ◌+◌, ◌*◌, ◌/◌, ◌<◌, ◌≤◌, Bool, true, false, List, [], ◌∷◌, ◌++◌, length, refl, sym, ap, ◌∙◌, subst, inl, inr, arith, length-append, if◌then◌else◌, ◌==◌, ◌||◌, Some}
use Rattle.std.specs.Prelude.{cond, count_by, nat_le, is_some}
use Rattle.std.proofs.lemmas.Bool.Decides.{nat_tests}
use Rattle.std.proofs.lemmas.List.Folds.{list_any-append}
use Rattle.std.proofs.lemmas.List.Sums.{sum_by-cons}
use Rattle.xt_base.specs.MemberList.{has_node}
use Rattle.xt_base.specs.declared.ids.NodeId.{NodeId}
use Rattle.xt_protocol.specs.Primaries.{is_reported, peer_in, reported, majority_among, statuses_counted, with_node}
use Rattle.xt_protocol.specs.declared.states.Peer.{Peer}
use Rattle.xt_protocol.specs.declared.states.PeerState.{PeerState}
use Rattle.xt_protocol.specs.declared.states.PeerState.TheVariants as peer
use Rattle.replica_safety.specs.Lists.{Has, AreDistinct}
use Rattle.replica_runs.specs.HeadSteps.{with_acked}
use Rattle.replica_runs.specs.World.{IsMost}
use Rattle.replica_runs.proofs.HeadStands.{more_pass}
use Rattle.replica_runs.proofs.Tools.{true_false, by_node, by_test}
use Rattle.replica_runs.specs.Seen.{statuses_of, acked_by, nodes_in, AckedFit}
use Rattle.replica_runs.proofs.Peers.{peer_there}

-- ---- who has acknowledged

pub acked_with : (acked : List NodeId) (q : NodeId) → with_acked (acked_by acked) q.0 ≡ acked_by (with_node acked q)
acked_with acked q = λ i m. same m i
  where
    same : (m : ℕ) → with_acked (acked_by acked) q.0 m ≡ acked_by (with_node acked q) m
    same m = by_test (λ b. has_node acked q.0 ≡ b → (if m == q.0 then true else has_node acked m) ≡ has_node (cond b acked (acked ++ q ∷ [])) m) (has_node acked q.0)
        (λ _ has. by_node (λ b. (if b then true else has_node acked m) ≡ has_node acked m) m q.0 (λ e. sym (ap (has_node acked) e ∙ has)) (λ _. refl))
        (λ _ _. one_more ∙ sym (list_any-append (λ (k : NodeId). k.0 == m) acked (q ∷ []))) refl
      where
        one_more : (if m == q.0 then true else has_node acked m) ≡ (has_node acked m || ((q.0 == m) || false))
        one_more = by_node (λ b. (if b then true else has_node acked m) ≡ (has_node acked m || ((q.0 == m) || false))) m q.0
            (λ e. by_node (λ b. true ≡ (has_node acked m || (b || false))) q.0 m (λ _. last (has_node acked m)) (λ ne. absurd (ne (sym e))))
            (λ ne. by_node (λ b. has_node acked m ≡ (has_node acked m || (b || false))) q.0 m (λ e. absurd (ne (sym e))) (λ _. none (has_node acked m)))
          where
            last : (b : Bool) → true ≡ (b || (true || false))
            last true = refl
            last false = refl

            none : (b : Bool) → b ≡ (b || (false || false))
            none true = refl
            none false = refl

-- one more passes
count_above : (p q : ℕ → Bool) → ((m : ℕ) → p m ≡ true → q m ≡ true) → (ms : List ℕ) (k : ℕ) → Has k ms → p k ≡ false → q k ≡ true → suc (count_by p ms) ≤ count_by q ms
count_above p q f [] k h a b = absurd h
count_above p q f (m ∷ ms) k (inl e) a b =
    let a2 : p m ≡ false = subst (λ x. p x ≡ false) e a in
    let b2 : q m ≡ true = subst (λ x. q x ≡ true) e b in
    let rest = more_pass p q f ms in
    grind (arith, nat_tests, sum_by-cons (λ x. cond (p x) 1 0) m ms, sum_by-cons (λ x. cond (q x) 1 0) m ms)
count_above p q f (m ∷ ms) k (inr h) a b = go (p m) refl (q m) refl (count_above p q f ms k h a b)
  where
    go : (c : Bool) → p m ≡ c → (d : Bool) → q m ≡ d → suc (count_by p ms) ≤ count_by q ms → suc (count_by p (m ∷ ms)) ≤ count_by q (m ∷ ms)
    go true e true d rest = grind (arith, nat_tests, sum_by-cons (λ x. cond (p x) 1 0) m ms, sum_by-cons (λ x. cond (q x) 1 0) m ms)
    go true e false d rest = true_false (f m e) d
    go false e c d rest = grind (arith, nat_tests, sum_by-cons (λ x. cond (p x) 1 0) m ms, sum_by-cons (λ x. cond (q x) 1 0) m ms)

pub acked_fits : (members : List ℕ) (acked : List NodeId) (q : NodeId) → Has q.0 members → AckedFit members acked → AckedFit members (with_node acked q)
acked_fits members acked q is fits =
    by_test (λ b. has_node acked q.0 ≡ b → AckedFit members (cond b acked (acked ++ q ∷ []))) (has_node acked q.0)
    (λ _ _. fits)
    (λ _ new. more (count_above (acked_by acked) (acked_by (acked ++ q ∷ [])) still members q.0 is new here)) refl
  where
    still : (m : ℕ) → has_node acked m ≡ true → has_node (acked ++ q ∷ []) m ≡ true
    still m h = list_any-append (λ (k : NodeId). k.0 == m) acked (q ∷ []) ∙ ap (λ b. b || ((q.0 == m) || false)) h

    here : has_node (acked ++ q ∷ []) q.0 ≡ true
    here = list_any-append (λ (k : NodeId). k.0 == q.0) acked (q ∷ [])
        ∙ by_node (λ b. (has_node acked q.0 || (b || false)) ≡ true) q.0 q.0 (λ _. last (has_node acked q.0)) (λ ne. absurd (ne refl))
      where
        last : (b : Bool) → (b || (true || false)) ≡ true
        last true = refl
        last false = refl

    more : suc (count_by (acked_by acked) members) ≤ count_by (acked_by (acked ++ q ∷ [])) members → AckedFit members (acked ++ q ∷ [])
    more above = omega (arith, above, fits, length-append acked (q ∷ []))

nodes_length : (peers : List Peer) → length (nodes_in peers) ≡ length peers
nodes_length [] = refl
nodes_length (p ∷ ps) = ap suc (nodes_length ps)

le_from : (a b : ℕ) → nat_le a b ≡ true → a ≤ b
le_from a b h = grind (arith, nat_tests)

over_half : (peers count : ℕ) → peers / 2 + 1 ≤ count → peers < 2 * count
over_half peers count h = omega (arith, h)

-- so a majority of them is one of the members
pub most_acked : (members : List ℕ) (peers : List Peer) (acked : List NodeId) → nodes_in peers ≡ members → AckedFit members acked
    → nat_le (majority_among peers) (length acked) ≡ true → IsMost members (acked_by acked)
most_acked members peers acked are fits most =
    omega (arith, over_half (length peers) (length acked) (le_from (majority_among peers) (length acked) most), fits, nodes_length peers, ap length are)

-- ---- statuses

-- who is counted among the peers has a status
counted_too : (all : List Peer) → AreDistinct (nodes_in all) → (ps : List Peer) → ((p : Peer) → Has p ps → Has p all)
    → count_by (λ (p : Peer). is_reported p.state) ps ≤ count_by (λ m. is_some (statuses_of all m)) (nodes_in ps)
counted_too all distinct [] among = omega arith
counted_too all distinct (p ∷ ps) among = go (is_reported p.state) refl (is_some (statuses_of all p.node.0)) refl (counted_too all distinct ps (λ q h. among q (inr h)))
  where
    is : peer_in all p.node ≡ Some p.state
    is = peer_there all p distinct (among p (inl refl))

    told : (s : PeerState) → is_reported s ≡ true → is_some (reported (Some s)) ≡ true
    told (peer.Reported h) e = refl
    told peer.Unknown e = true_false e refl
    told (peer.Feeding known o v b) e = true_false e refl
    told (peer.Heading known h) e = true_false e refl
    told peer.Current e = true_false e refl

    go : (a : Bool) → is_reported p.state ≡ a → (b : Bool) → is_some (statuses_of all p.node.0) ≡ b
        → count_by (λ (q : Peer). is_reported q.state) ps ≤ count_by (λ m. is_some (statuses_of all m)) (nodes_in ps)
        → count_by (λ (q : Peer). is_reported q.state) (p ∷ ps) ≤ count_by (λ m. is_some (statuses_of all m)) (p.node.0 ∷ nodes_in ps)
    go true e true d rest = grind (arith, nat_tests, sum_by-cons (λ (q : Peer). cond (is_reported q.state) 1 0) p ps, sum_by-cons (λ m. cond (is_some (statuses_of all m)) 1 0) p.node.0 (nodes_in ps))
    go true e false d rest = true_false (ap (λ o. is_some (reported o)) is ∙ told p.state e) d
    go false e b d rest = grind (arith, nat_tests, sum_by-cons (λ (q : Peer). cond (is_reported q.state) 1 0) p ps, sum_by-cons (λ m. cond (is_some (statuses_of all m)) 1 0) p.node.0 (nodes_in ps))

pub most_told : (members : List ℕ) (peers : List Peer) → AreDistinct members → nodes_in peers ≡ members
    → nat_le (majority_among peers) (statuses_counted peers) ≡ true → IsMost members (λ m. is_some (statuses_of peers m))
most_told members peers distinct are most =
    subst (λ ms. IsMost ms (λ m. is_some (statuses_of peers m))) are
    (omega (
      arith,
      over_half (length peers) (statuses_counted peers) (le_from (majority_among peers) (statuses_counted peers) most),
      counted_too peers (subst AreDistinct (sym are) distinct) peers (λ p h. h),
      nodes_length peers,
    ))
