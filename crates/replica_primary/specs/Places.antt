-- where a node stands among peers
use Rattle.std.specs.Prelude.{ℕ, ◌≡◌, ◌<◌, Option, Some, None, List, length, slice_index_or, slice_set}
use Rattle.xt_base.specs.declared.ids.NodeId.{NodeId}
use Rattle.xt_protocol.specs.declared.states.Peer.{Peer}
use Rattle.xt_protocol.specs.declared.states.PeerState.{PeerState}
use Rattle.xt_protocol.specs.Primaries.{peer_in, with_peer}

-- the first peer with this node is there, and is so far; or there is none
abbrev pub IsPeerPlace : List Peer → NodeId → Option ℕ → Type 0
IsPeerPlace peers node (Some place) =
    (place < length peers)
    × ((state : PeerState) → with_peer peers node state ≡ slice_set peers place (record { node = node; state = state }))
    × ((d : Peer) → peer_in peers node ≡ Some (slice_index_or peers place d).state)
IsPeerPlace peers node None = ((state : PeerState) → with_peer peers node state ≡ peers) × (peer_in peers node ≡ None)
