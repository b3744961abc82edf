-- a peer is fed on, as the code puts it
use Rattle.std.proofs.Common.{◌≡◌, ℕ, List, Option, Some, None, Bool, true, false, [], ◌∷◌, refl, ap, ◌∙◌}
use Rattle.std.specs.Prelude.{is_some, cond, ◌==◌}
use Rattle.xt_base.specs.declared.ids.NodeId.{NodeId}
use Rattle.xt_messages.specs.declared.file.ObjectVersion.{ObjectVersion}
use Rattle.xt_messages.specs.declared.file.FileHead.{FileHead}
use Rattle.xt_protocol.specs.declared.states.PeerState.{PeerState}
use Rattle.xt_protocol.specs.declared.states.PeerState.TheVariants as peer
use Rattle.xt_protocol.specs.declared.states.Tenure.{Tenure}
use Rattle.xt_protocol.specs.Stamps.{with_held, without_version}
use Rattle.xt_protocol.specs.declared.turned.Turned.{Turned}
use Rattle.xt_protocol.specs.declared.states.Peer.{Peer}
use Rattle.xt_protocol.specs.Turns.{sends}
use Rattle.xt_protocol.specs.Primaries.{Ground, fed, if_any, last_sent, with_peer}
use Rattle.xt_protocol.specs.PrimaryRows.{body_missed, body_staged, feeds, goes_on, send_to_peer, target_in, unmoved, with_state}
use Rattle.peer_searches.specs.Sound.{known_in}
use Rattle.replica_primary.specs.Feeding.{is_at_head}
use Rattle.replica_primary.specs.Moves.{feeds_any, misses_in, stages_in}

-- a peer's state that is set twice
again_at : (p : Peer) (peers : List Peer) (node : NodeId) (a b : PeerState) (here : Bool) → (p.node.0 == node.0) ≡ here
    → with_peer (with_peer peers node a) node b ≡ with_peer peers node b
    → with_peer (cond here (record { node = p.node; state = a } ∷ peers) (p ∷ with_peer peers node a)) node b
    ≡ cond here (record { node = p.node; state = b } ∷ peers) (p ∷ with_peer peers node b)
unfolding with_peer
again_at p peers node a b true is rest =
    ap (λ (c : Bool). cond c (record { node = p.node; state = b } ∷ peers) (record { node = p.node; state = a } ∷ with_peer peers node b)) is
again_at p peers node a b false is rest =
    ap (λ (c : Bool). cond c (record { node = p.node; state = b } ∷ with_peer peers node a) (p ∷ with_peer (with_peer peers node a) node b)) is
    ∙ ap (λ (ps : List Peer). p ∷ ps) rest

pub set_again : (peers : List Peer) (node : NodeId) (a b : PeerState) → with_peer (with_peer peers node a) node b ≡ with_peer peers node b
unfolding with_peer
set_again [] node a b = refl
set_again (p ∷ peers) node a b = again_at p peers node a b (p.node.0 == node.0) refl (set_again peers node a b)

module _ (g : Ground) (learnt : ℕ) (t : Tenure) (from : NodeId) where
  -- a peer's state is set, and what leads to it is sent
  pub fed_by : (after : Tenure) (turned : Turned) (state : PeerState) (head : FileHead) (known : List ObjectVersion) → after ≡ with_state t from state
      → turned ≡ sends (if_any g.place.node from (last_sent g.place.file t.epoch state)) → state ≡ fed g.body head known
      → goes_on learnt after turned ≡ feeds g learnt t from head known
  fed_by after turned state head known put sent is = (λ i. goes_on learnt (put i) (sent i)) ∙ ap (λ (s : PeerState). send_to_peer g learnt t from s) is

  -- the same where the state was taken out before
  pub set_anew : (peers : List Peer) (after : Tenure) (old state : PeerState) → peers ≡ with_peer t.peers from old
      → after ≡ with_state (record t { peers = peers }) from state → after ≡ with_state t from state
  set_anew peers after old state taken put =
      put
      ∙ ap (λ (ps : List Peer). with_state (record t { peers = ps }) from state) taken
      ∙ ap (λ (ps : List Peer). let made : Tenure = record t { peers = ps } in made) (set_again t.peers from old state)

  -- there is a head to which peers are brought, or none
  pub fed_to : (head : FileHead) (known : List ObjectVersion) → Some head ≡ target_in g.own t.epoch t.progress
      → feeds g learnt t from head known ≡ feeds_any g learnt t (target_in g.own t.epoch t.progress) from (Some known)
  fed_to head known is = ap (λ (target : Option FileHead). feeds_any g learnt t target from (Some known)) is

  pub none_fed : (known : List ObjectVersion) → None ≡ target_in g.own t.epoch t.progress
      → unmoved learnt t ≡ feeds_any g learnt t (target_in g.own t.epoch t.progress) from (Some known)
  none_fed known is = ap (λ (target : Option FileHead). feeds_any g learnt t target from (Some known)) is

  module _ (v : ObjectVersion) where
    pub none_staged : (state : Option PeerState) → None ≡ target_in g.own t.epoch t.progress → unmoved learnt t ≡ stages_in g learnt t from state v
    none_staged None is = refl
    none_staged (Some state) is = ap (λ (target : Option FileHead). body_staged g learnt t target from state v) is

    pub none_missed : (state : Option PeerState) → None ≡ target_in g.own t.epoch t.progress → unmoved learnt t ≡ misses_in g learnt t from state v
    none_missed None is = refl
    none_missed (Some state) is = ap (λ (target : Option FileHead). body_missed g learnt t target from state v) is

    -- nothing is known of the peer
    idle_staged : (target : Option FileHead) (state : PeerState) → is_some (known_in (Some state)) ≡ false → unmoved learnt t ≡ body_staged g learnt t target from state v
    idle_staged (Some head) peer.Unknown none = refl
    idle_staged (Some head) (peer.Reported h) none = refl
    idle_staged (Some head) peer.Current none = refl
    idle_staged (Some head) (peer.Feeding known object version body) none = absurd cc
    idle_staged (Some head) (peer.Heading known h) none = absurd cc
    idle_staged None state none = refl

    pub unknown_staged : (state : Option PeerState) → is_some (known_in state) ≡ false → unmoved learnt t ≡ stages_in g learnt t from state v
    unknown_staged None none = refl
    unknown_staged (Some state) none = idle_staged (target_in g.own t.epoch t.progress) state none

    -- it was not sent a head last
    idle_missed : (target : Option FileHead) (state : PeerState) → is_at_head (Some state) ≡ false → unmoved learnt t ≡ body_missed g learnt t target from state v
    idle_missed (Some head) peer.Unknown other = refl
    idle_missed (Some head) (peer.Reported h) other = refl
    idle_missed (Some head) peer.Current other = refl
    idle_missed (Some head) (peer.Feeding known object version body) other = refl
    idle_missed (Some head) (peer.Heading known h) other = absurd cc
    idle_missed None state other = refl

    pub other_missed : (state : Option PeerState) → is_at_head state ≡ false → unmoved learnt t ≡ misses_in g learnt t from state v
    other_missed None other = refl
    other_missed (Some state) other = idle_missed (target_in g.own t.epoch t.progress) state other

    -- it is fed on
    staged_to : (target : Option FileHead) (head : FileHead) (known : List ObjectVersion) (state : PeerState) → Some head ≡ target → Some known ≡ known_in (Some state)
        → feeds g learnt t from head (with_held known v) ≡ body_staged g learnt t target from state v
    staged_to target head known (peer.Feeding k object version body) is there =
        let same : known ≡ k = cc in
        ap (λ (ks : List ObjectVersion). feeds g learnt t from head (with_held ks v)) same
        ∙ ap (λ (o : Option FileHead). body_staged g learnt t o from (peer.Feeding k object version body) v) is
    staged_to target head known (peer.Heading k h) is there =
        let same : known ≡ k = cc in
        ap (λ (ks : List ObjectVersion). feeds g learnt t from head (with_held ks v)) same
        ∙ ap (λ (o : Option FileHead). body_staged g learnt t o from (peer.Heading k h) v) is
    staged_to target head known peer.Unknown is there = absurd cc
    staged_to target head known (peer.Reported h) is there = absurd cc
    staged_to target head known peer.Current is there = absurd cc

    pub known_staged : (head : FileHead) (known : List ObjectVersion) (state : Option PeerState) → Some head ≡ target_in g.own t.epoch t.progress → Some known ≡ known_in state
        → feeds g learnt t from head (with_held known v) ≡ stages_in g learnt t from state v
    known_staged head known None is there = absurd cc
    known_staged head known (Some state) is there = staged_to (target_in g.own t.epoch t.progress) head known state is there

    missed_to : (target : Option FileHead) (head : FileHead) (known : List ObjectVersion) (state : PeerState) → Some head ≡ target → Some known ≡ known_in (Some state)
        → is_at_head (Some state) ≡ true → feeds g learnt t from head (without_version known v) ≡ body_missed g learnt t target from state v
    missed_to target head known (peer.Heading k h) is there last =
        let same : known ≡ k = cc in
        ap (λ (ks : List ObjectVersion). feeds g learnt t from head (without_version ks v)) same
        ∙ ap (λ (o : Option FileHead). body_missed g learnt t o from (peer.Heading k h) v) is
    missed_to target head known (peer.Feeding k object version body) is there last = absurd cc
    missed_to target head known peer.Unknown is there last = absurd cc
    missed_to target head known (peer.Reported h) is there last = absurd cc
    missed_to target head known peer.Current is there last = absurd cc

    pub known_missed : (head : FileHead) (known : List ObjectVersion) (state : Option PeerState) → Some head ≡ target_in g.own t.epoch t.progress → Some known ≡ known_in state
        → is_at_head state ≡ true → feeds g learnt t from head (without_version known v) ≡ misses_in g learnt t from state v
    known_missed head known None is there last = absurd cc
    known_missed head known (Some state) is there last = missed_to (target_in g.own t.epoch t.progress) head known state is there last
