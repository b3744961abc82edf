-- the searches for what peers lack, as a message leaves them
use Rattle.std.proofs.Common.{◌≡◌, ◌∙◌, ℕ, Bool, true, false, cond, Option, List, take, None, Some, refl, ap, sym, subst}
use Rattle.std.specs.Prelude.{find, not}
use Rattle.xt_base.specs.declared.ids.NodeId.{NodeId}
use Rattle.xt_base.specs.declared.ids.Stamp.{Stamp}
use Rattle.xt_messages.specs.declared.file.ObjectVersion.{ObjectVersion}
use Rattle.xt_messages.specs.declared.file.FileHead.{FileHead}
use Rattle.xt_protocol.specs.Stamps.{has_version, is_below, with_held}
use Rattle.xt_protocol.specs.ReplicaRows.{first_missing}
use Rattle.xt_protocol.specs.declared.states.Peer.{Peer}
use Rattle.xt_protocol.specs.declared.states.PeerState.{PeerState}
use Rattle.xt_protocol.specs.declared.states.PeerState.TheVariants as peer
use Rattle.xt_protocol.specs.declared.states.IssuedUpdate.{IssuedUpdate}
use Rattle.xt_protocol.specs.declared.states.Progress.{Progress}
use Rattle.xt_protocol.specs.declared.states.Progress.TheVariants as progress
use Rattle.xt_protocol.specs.declared.states.Tenure.{Tenure}
use Rattle.xt_protocol.specs.Primaries.{Ground, Led, carries, fed, fed_next, peer_in, with_node, with_peer}
use Rattle.xt_protocol.specs.PrimaryRows.{acked_below, hears_ack, with_state}
use Rattle.peer_searches.specs.declared.searches.Search.{Search}
use Rattle.peer_searches.specs.Sound.{AreSound, known_in, known_of, with_search}
use Rattle.peer_searches.proofs.Set.{gone_on, known_still, let_go}
use Rattle.replica_primary.specs.declared.feeding.Target.{Target}
use Rattle.replica_primary.specs.declared.feeding.Target.TheVariants as target
use Rattle.replica_primary.specs.Feeding.{IsOfOwn, head_of, of_own}
use Rattle.replica_primary.specs.Moves.{peers_under}

-- what is known of a peer that is fed
known_next : (body : ℕ → Stamp → List ℕ) (head : FileHead) (known : List ObjectVersion) (o : Option ObjectVersion) → known_of (fed_next body head known o) ≡ Some known
known_next body head known None = refl
known_next body head known (Some v) = refl

pub known_fed : (body : ℕ → Stamp → List ℕ) (head : FileHead) (known : List ObjectVersion) (state : PeerState) → state ≡ fed body head known → known_of state ≡ Some known
unfolding fed
known_fed body head known state is = ap known_of is ∙ known_next body head known (find (λ v. not (has_version known v)) head.versions)

-- what a search has passed of a target is known of the own head
passed_own : (to : Target) (own : FileHead) (known : List ObjectVersion) (passed : ℕ) → IsOfOwn own to → first_missing known (take passed (head_of to).versions) ≡ None
    → first_missing known (take (of_own to passed) own.versions) ≡ None
passed_own (target.Whole head) own known passed is none = sym (ap (λ (h : FileHead). first_missing known (take passed h.versions)) is) ∙ none
passed_own (target.Under head epoch) own known passed is none = refl

-- and the other way round
passed_to : (to : Target) (own : FileHead) (known : List ObjectVersion) (passed : ℕ) → IsOfOwn own to → first_missing known (take passed own.versions) ≡ None
    → first_missing known (take (of_own to passed) (head_of to).versions) ≡ None
passed_to (target.Whole head) own known passed is none = ap (λ (h : FileHead). first_missing known (take passed h.versions)) is ∙ none
passed_to (target.Under head epoch) own known passed is none = refl

-- the search of a peer that has one body more goes on
pub begun : (to : Target) (own : FileHead) (peers : List Peer) (searches : List Search) (node : NodeId) (before known : List ObjectVersion) (v : ObjectVersion) (passed : ℕ)
    → IsOfOwn own to → ((ks : List ObjectVersion) → known_in (peer_in peers node) ≡ Some ks → first_missing ks (take passed own.versions) ≡ None)
    → Some before ≡ known_in (peer_in peers node) → known ≡ with_held before v
    → first_missing known (take (of_own to passed) (head_of to).versions) ≡ None
begun to own peers searches node before known v passed is sound was held =
    ap (λ (ks : List ObjectVersion). first_missing ks (take (of_own to passed) (head_of to).versions)) held
    ∙ known_still before v (take (of_own to passed) (head_of to).versions) (passed_to to own before passed is (sound before (sym was)))

-- what is known of a peer is taken out
pub taken_sound : (versions : List ObjectVersion) (peers taken : List Peer) (searches : List Search) (node : NodeId) → taken ≡ with_peer peers node peer.Unknown → AreSound versions peers searches → AreSound versions taken searches
taken_sound versions peers taken searches node is sound =
    let P : List Peer → Type 0 = λ ps. AreSound versions ps searches in
    subst P (sym is) (let_go versions peers searches node peer.Unknown sound refl)

-- the search of a peer that is fed on
pub fed_sound : (body : ℕ → Stamp → List ℕ) (to : Target) (own : FileHead) (peers : List Peer) (searches after : List Search) (node : NodeId) (known : List ObjectVersion) (found : ℕ) (state : PeerState)
    → IsOfOwn own to → AreSound own.versions peers searches → state ≡ fed body (head_of to) known → first_missing known (take found (head_of to).versions) ≡ None
    → after ≡ with_search searches (record { node = node; passed = of_own to found })
    → AreSound own.versions (with_peer peers node state) after
fed_sound body to own peers searches after node known found state is sound made none put =
    subst (AreSound own.versions (with_peer peers node state)) (sym put)
    (gone_on own.versions peers searches node state sound known (of_own to found) (known_fed body (head_of to) known state made) (passed_own to own known found is none))

-- An acknowledgement leaves searches sound.
module _ (versions : List ObjectVersion) (searches : List Search) where
  abbrev LeftSound : Led → Type 0
  LeftSound led = AreSound versions (peers_under led.primary.tenure) searches

  either : (b : Bool) (x y : Led) → LeftSound x → LeftSound y → LeftSound (cond b x y)
  either true x y l r = l
  either false x y l r = r

  module _ (g : Ground) (learnt : ℕ) where
    below : (t : Tenure) → AreSound versions t.peers searches → (head : FileHead) (from : NodeId) (stamp : Stamp) (newly : Bool) (issued : Option IssuedUpdate)
        → LeftSound (acked_below g learnt t head from stamp newly issued)
    below t sound head from stamp newly None = sound
    below t sound head from stamp newly (Some issued) =
        either (not (is_below stamp issued.update.stamp)) _ _ (either (carries g.place t.peers (with_node issued.acked from)) _ _ sound sound) (either newly _ _ sound sound)

    acked : (t : Tenure) → AreSound versions t.peers searches → (p : Progress) (from : NodeId) (newly : Bool) (stamp : Stamp) → LeftSound (hears_ack g learnt t p from newly stamp)
    acked t sound (progress.Installing chosen nodes) from true stamp =
        let after = let_go versions t.peers searches from peer.Current sound refl in
        either (carries g.place (with_state t from peer.Current).peers (with_node nodes from)) _ _ after after
    acked t sound (progress.Installing chosen nodes) from false stamp = sound
    acked t sound (progress.Active head issued) from true stamp = below (with_state t from peer.Current) (let_go versions t.peers searches from peer.Current sound refl) head from stamp true issued
    acked t sound (progress.Active head issued) from false stamp = below t sound head from stamp false issued
    acked t sound progress.Gathering from newly stamp = sound
    acked t sound (progress.Fetching chosen source asked later) from newly stamp = sound

    pub acked_sound : (t : Tenure) → AreSound versions t.peers searches → (p : Progress) (from : NodeId) (newly : Bool) (stamp : Stamp) (led : Led) → led ≡ hears_ack g learnt t p from newly stamp → LeftSound led
    acked_sound t sound p from newly stamp led is = subst LeftSound (sym is) (acked t sound p from newly stamp)
