use Rattle.std.proofs.Common.{◌∙◌, List, Option, ap, sym}
use Rattle.std.specs.Prelude.{is_some}
use Rattle.xt_protocol.specs.declared.states.Peer.{Peer}
use Rattle.xt_protocol.specs.declared.states.PeerState.{PeerState}
use Rattle.xt_protocol.specs.declared.states.PeerState.TheVariants as peer
use Rattle.xt_protocol.specs.Primaries.{with_peer}
use Rattle.peer_searches.specs.Sound.{known_in, known_of}
use Rattle.replica_primary.proofs.Fed.{set_again}
use Rattle.replica_primary.proofs.Hears.{keep_peer}
use Rattle.replica_primary.proofs.Staged.{held_some}
use Rattle.replica_primary.proofs.staging.take_known_with.Goals as goal

pub returns-in-Err-clause-same : goal.returns-in-Err-clause-same
returns-in-Err-clause-same c =
    let peers = c.args.peers.now in
    let node = c.args.node in
    let state = c.in-Some.state in
    c.set_peer.ensures
    ∙ ap (λ (ps : List Peer). with_peer ps node c.hold_in.new.state) c.swap_state.ensures.after
    ∙ ap (λ (s : PeerState). with_peer (with_peer peers node peer.Unknown) node s) c.in-Err.ensures.same
    ∙ set_again peers node peer.Unknown state
    ∙ keep_peer peers node state (sym c.in-Some.ensures.before)

pub unreachable-requires-in_default-known_of : goal.unreachable-requires-in_default-known_of
unreachable-requires-in_default-known_of c =
    held_some c.args.version (known_of c.in-Some.state) (known_of c.hold_in.new.state)
    (ap (λ (o : Option PeerState). is_some (known_in o)) c.in-Some.ensures.before ∙ c.requires) c.in_default-hold_in.ensures.held
    (sym c.known_of.ensures ∙ c.in_default-known_of.is)
