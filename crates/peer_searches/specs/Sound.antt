-- how far the search for the first version that a peer lacks has come
use Rattle.std.specs.Prelude.{ℕ, ◌≡◌, ◌==◌, if◌then◌else◌, not, Option, Some, None, List, [], ◌∷◌, ◌++◌, filter, take}
use Rattle.xt_base.specs.declared.ids.NodeId.{NodeId}
use Rattle.xt_messages.specs.declared.file.ObjectVersion.{ObjectVersion}
use Rattle.xt_protocol.specs.declared.states.Peer.{Peer}
use Rattle.xt_protocol.specs.declared.states.PeerState.{PeerState}
use Rattle.xt_protocol.specs.declared.states.PeerState.TheVariants as peer
use Rattle.xt_protocol.specs.Primaries.{peer_in}
use Rattle.xt_protocol.specs.ReplicaRows.{first_missing}
use Rattle.peer_searches.specs.declared.searches.Search.{Search}

-- what is known of a peer that was sent a body or a head
abbrev pub known_of : PeerState → Option (List ObjectVersion)
known_of (peer.Feeding known object version body) = Some known
known_of (peer.Heading known head) = Some known
known_of _ = None

abbrev pub known_in : Option PeerState → Option (List ObjectVersion)
known_in None = None
known_in (Some state) = known_of state

-- how many versions, from the first one on, the search for what this peer lacks has passed
abbrev pub passed_at : List Search → NodeId → ℕ
passed_at [] node = 0
passed_at (s ∷ rest) node = if s.node.0 == node.0 then s.passed else passed_at rest node

-- the searches with this one in place of an earlier one for its peer
abbrev pub with_search : List Search → Search → List Search
with_search searches s = filter (λ other. not (other.node.0 == s.node.0)) searches ++ s ∷ []

-- Each version that a search has passed is known of its peer, which is being brought to a head of these versions.
pub record AreSound (versions : List ObjectVersion) (peers : List Peer) (searches : List Search) : Type 0 where
  pub passed : (node : NodeId) (known : List ObjectVersion) → known_in (peer_in peers node) ≡ Some known → first_missing known (take (passed_at searches node) versions) ≡ None
