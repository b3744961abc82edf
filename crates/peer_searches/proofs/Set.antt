-- which searches are sound
use Rattle.std.proofs.Common.{◌≡◌, ◌∙◌, ℕ, Bool, true, false, cond, Option, List, [], ◌∷◌, ◌++◌, take, None, Some, ap, sym, refl, arith}
use Rattle.std.specs.Prelude.{not, ◌==◌, ◌||◌, filter}
use Rattle.std.specs.List.{list_any}
use Rattle.xt_base.specs.declared.ids.NodeId.{NodeId}
use Rattle.xt_messages.specs.declared.file.ObjectVersion.{ObjectVersion}
use Rattle.xt_protocol.specs.declared.states.Peer.{Peer}
use Rattle.xt_protocol.specs.declared.states.PeerState.{PeerState}
use Rattle.xt_protocol.specs.Stamps.{is_version, comes_before, has_version, with_held}
use Rattle.xt_protocol.specs.Primaries.{peer_in, with_peer}
use Rattle.xt_protocol.specs.ReplicaRows.{first_missing}
use Rattle.peer_searches.specs.declared.searches.Search.{Search}
use Rattle.peer_searches.specs.Sound.{AreSound, known_in, known_of, passed_at, with_search}

-- What is known grows.

or_later : (a b c : Bool) → (b ≡ true → c ≡ true) → (a || b) ≡ true → (a || c) ≡ true
or_later true b c later is = refl
or_later false b c later is = later is

or_past : (a b : Bool) → b ≡ true → (a || b) ≡ true
or_past true b is = refl
or_past false b is = is

held_too : (held : List ObjectVersion) (v w : ObjectVersion) → has_version held w ≡ true → has_version (with_held held v) w ≡ true
unfolding with_held
held_too [] v w has = absurd cc
held_too (h ∷ hs) v w has = by (is_version h v) (comes_before v h) (held_too hs v w)
  where
    by : (same before : Bool) → (has_version hs w ≡ true → has_version (with_held hs v) w ≡ true) → has_version (cond same (h ∷ hs) (cond before (v ∷ h ∷ hs) (h ∷ with_held hs v))) w ≡ true
    by true before later = has
    by false true later = or_past (is_version w v) (has_version (h ∷ hs) w) has
    by false false later = or_later (is_version w h) (has_version hs w) (has_version (with_held hs v) w) later has

pub known_still : (known : List ObjectVersion) (v : ObjectVersion) (versions : List ObjectVersion) → first_missing known versions ≡ None → first_missing (with_held known v) versions ≡ None
known_still known v [] none = refl
known_still known v (w ∷ ws) none = by (has_version known w) (has_version (with_held known v) w) (held_too known v w) (known_still known v ws) none
  where
    by : (old new : Bool) → (old ≡ true → new ≡ true) → (first_missing known ws ≡ None → first_missing (with_held known v) ws ≡ None)
        → cond (not old) (Some w) (first_missing known ws) ≡ None → cond (not new) (Some w) (first_missing (with_held known v) ws) ≡ None
    by true true grows rest is = rest is
    by true false grows rest is = absurd (let clash : false ≡ true = grows refl in cc)
    by false new grows rest is = absurd cc

-- A peer is set.

apart : (a b c : ℕ) → (a == b) ≡ true → (b ≡ c → ⊥) → (a == c) ≡ false
apart a b c same differ = grind arith

as_well : (a b c : ℕ) (t : Bool) → b ≡ c → (a == b) ≡ t → (a == c) ≡ t
as_well a b c t same is = ap (λ n. a == n) (sym same) ∙ is

same_peer : (peers : List Peer) (node other : NodeId) (state found : PeerState) → node.0 ≡ other.0 → peer_in (with_peer peers node state) other ≡ Some found → found ≡ state
unfolding peer_in with_peer
same_peer [] node other state found same is = absurd cc
same_peer (p ∷ ps) node other state found same is = by (p.node.0 == node.0) refl (same_peer ps node other state found same) is
  where
    by : (here : Bool) → (p.node.0 == node.0) ≡ here → (peer_in (with_peer ps node state) other ≡ Some found → found ≡ state)
        → peer_in (cond here (record { node = p.node; state = state } ∷ ps) (p ∷ with_peer ps node state)) other ≡ Some found → found ≡ state
    by true here rest is =
        let it : Some state ≡ Some found = sym (ap (λ (b : Bool). cond b (Some state) (peer_in ps other)) (as_well p.node.0 node.0 other.0 true same here)) ∙ is in
        cc
    by false here rest is =
        rest (sym (ap (λ (b : Bool). cond b (Some p.state) (peer_in (with_peer ps node state) other)) (as_well p.node.0 node.0 other.0 false same here)) ∙ is)

other_peer : (peers : List Peer) (node other : NodeId) (state : PeerState) → (node.0 ≡ other.0 → ⊥) → peer_in (with_peer peers node state) other ≡ peer_in peers other
unfolding peer_in with_peer
other_peer [] node other state differ = refl
other_peer (p ∷ ps) node other state differ = by (p.node.0 == node.0) refl (other_peer ps node other state differ)
  where
    by : (here : Bool) → (p.node.0 == node.0) ≡ here → peer_in (with_peer ps node state) other ≡ peer_in ps other
        → peer_in (cond here (record { node = p.node; state = state } ∷ ps) (p ∷ with_peer ps node state)) other ≡ cond (p.node.0 == other.0) (Some p.state) (peer_in ps other)
    by true here rest =
        let it = apart p.node.0 node.0 other.0 here differ in
        ap (λ (b : Bool). cond b (Some state) (peer_in ps other)) it ∙ sym (ap (λ (b : Bool). cond b (Some p.state) (peer_in ps other)) it)
    by false here rest = ap (λ (o : Option PeerState). cond (p.node.0 == other.0) (Some p.state) o) rest

-- A search is put.

module _ (s : Search) (other : NodeId) where
  same_search : (searches : List Search) → s.node.0 ≡ other.0 → passed_at (with_search searches s) other ≡ s.passed
  same_search [] same = grind arith
  same_search (t ∷ ts) same = by (t.node.0 == s.node.0) refl (same_search ts same)
    where
      by : (here : Bool) → (t.node.0 == s.node.0) ≡ here → passed_at (with_search ts s) other ≡ s.passed
          → passed_at (cond (not here) (t ∷ filter (λ (q : Search). not (q.node.0 == s.node.0)) ts) (filter (λ (q : Search). not (q.node.0 == s.node.0)) ts) ++ s ∷ []) other ≡ s.passed
      by true here rest = rest
      by false here rest = ap (λ (b : Bool). cond b t.passed (passed_at (with_search ts s) other)) (as_well t.node.0 s.node.0 other.0 false same here) ∙ rest

  other_search : (searches : List Search) → (s.node.0 ≡ other.0 → ⊥) → passed_at (with_search searches s) other ≡ passed_at searches other
  other_search [] differ = grind arith
  other_search (t ∷ ts) differ = by (t.node.0 == s.node.0) refl (other_search ts differ)
    where
      by : (here : Bool) → (t.node.0 == s.node.0) ≡ here → passed_at (with_search ts s) other ≡ passed_at ts other
          → passed_at (cond (not here) (t ∷ filter (λ (q : Search). not (q.node.0 == s.node.0)) ts) (filter (λ (q : Search). not (q.node.0 == s.node.0)) ts) ++ s ∷ []) other
          ≡ cond (t.node.0 == other.0) t.passed (passed_at ts other)
      by true here rest = rest ∙ sym (ap (λ (b : Bool). cond b t.passed (passed_at ts other)) (apart t.node.0 s.node.0 other.0 here differ))
      by false here rest = ap (λ (n : ℕ). cond (t.node.0 == other.0) t.passed n) rest

-- Searches are sound.

-- where none has begun
pub none_begun : (versions : List ObjectVersion) (peers : List Peer) → AreSound versions peers []
none_begun versions peers = record { passed = λ node known is. refl }

-- where there are no peers
pub none_fed : (versions : List ObjectVersion) (searches : List Search) → AreSound versions [] searches
unfolding peer_in
none_fed versions searches = record { passed = λ node known is. absurd cc }

is_same : (a b : ℕ) → (a == b) ≡ true → a ≡ b
is_same a b is = grind arith

not_same : (a b : ℕ) → (a == b) ≡ false → a ≡ b → ⊥
not_same a b is same = grind arith

module _ (versions : List ObjectVersion) (peers : List Peer) (searches : List Search) (node : NodeId) (state : PeerState) (sound : AreSound versions peers searches) where
  -- what is known of a peer once that one is set: what is known in its new state, or what was known of another one
  known_then : (other : NodeId) (known : List ObjectVersion) → node.0 ≡ other.0 → known_in (peer_in (with_peer peers node state) other) ≡ Some known → known_of state ≡ Some known
  known_then other known same is = by (peer_in (with_peer peers node state) other) refl is
    where
      by : (o : Option PeerState) → peer_in (with_peer peers node state) other ≡ o → known_in o ≡ Some known → known_of state ≡ Some known
      by None found is = absurd cc
      by (Some s) found is = ap known_of (sym (same_peer peers node other state s same found)) ∙ is

  other_then : (other : NodeId) (known : List ObjectVersion) → (node.0 ≡ other.0 → ⊥) → known_in (peer_in (with_peer peers node state) other) ≡ Some known
      → first_missing known (take (passed_at searches other) versions) ≡ None
  other_then other known differ is = sound.passed other known (sym (ap known_in (other_peer peers node other state differ)) ∙ is)

  -- a peer of which nothing is known any more
  pub let_go : known_of state ≡ None → AreSound versions (with_peer peers node state) searches
  let_go none = record { passed = λ other known is. by other known is (node.0 == other.0) refl }
    where
      by : (other : NodeId) (known : List ObjectVersion) → known_in (peer_in (with_peer peers node state) other) ≡ Some known → (here : Bool) → (node.0 == other.0) ≡ here
          → first_missing known (take (passed_at searches other) versions) ≡ None
      by other known is true here = absurd (let clash : None ≡ Some known = sym none ∙ known_then other known (is_same node.0 other.0 here) is in cc)
      by other known is false here = other_then other known (not_same node.0 other.0 here) is

  -- a peer that is sent the first version that it lacks, or the head
  pub gone_on : (known : List ObjectVersion) (passed : ℕ) → known_of state ≡ Some known → first_missing known (take passed versions) ≡ None
      → AreSound versions (with_peer peers node state) (with_search searches (record { node = node; passed = passed }))
  gone_on known passed fed none = record { passed = λ other ks is. by other ks is (node.0 == other.0) refl }
    where
      by : (other : NodeId) (ks : List ObjectVersion) → known_in (peer_in (with_peer peers node state) other) ≡ Some ks → (here : Bool) → (node.0 == other.0) ≡ here
          → first_missing ks (take (passed_at (with_search searches (record { node = node; passed = passed })) other) versions) ≡ None
      by other ks is true here =
          let same = is_same node.0 other.0 here in
          let it : Some known ≡ Some ks = sym fed ∙ known_then other ks same is in
          let known_is : known ≡ ks = cc in
          ap (λ (n : ℕ). first_missing ks (take n versions)) (same_search (record { node = node; passed = passed }) other searches same)
          ∙ ap (λ (vs : List ObjectVersion). first_missing vs (take passed versions)) (sym known_is)
          ∙ none
      by other ks is false here =
          let differ = not_same node.0 other.0 here in
          ap (λ (n : ℕ). first_missing ks (take n versions)) (other_search (record { node = node; passed = passed }) other searches differ) ∙ other_then other ks differ is
