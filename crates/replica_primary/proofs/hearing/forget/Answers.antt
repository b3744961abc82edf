use Rattle.std.proofs.Common.{◌∙◌, List, ap, sym}
use Rattle.xt_protocol.specs.declared.states.Peer.{Peer}
use Rattle.xt_protocol.specs.declared.states.PeerState.{PeerState}
use Rattle.xt_protocol.specs.Primaries.{peer_in, with_peer}
use Rattle.replica_primary.proofs.Hears.{other_forgotten, reported_kept}
use Rattle.replica_primary.proofs.hearing.forget.Goals as goal

pub returns-then-is_reported : goal.returns-then-is_reported
returns-then-is_reported c =
    λ state is.
    let from = c.args.from in
    let told = ap (λ (peers : List Peer). peer_in peers from) c.as_slice.ensures ∙ is in
    reported_kept c.args.peers.now from state is (sym (c.is_reported.ensures state told) ∙ c.if-is_reported.true)

pub returns : goal.returns
returns c =
    λ state is.
    let from = c.args.from in
    let told = ap (λ (peers : List Peer). peer_in peers from) c.as_slice.ensures ∙ is in
    c.set_peer.ensures
    ∙ ap (λ (s : PeerState). with_peer c.args.peers.now from s) (other_forgotten state (sym (c.is_reported.ensures state told) ∙ c.if-is_reported.false))
