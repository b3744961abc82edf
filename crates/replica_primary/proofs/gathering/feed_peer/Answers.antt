use Rattle.std.proofs.Common.{◌∙◌, List, ap, sym}
use Rattle.xt_messages.specs.declared.file.ObjectVersion.{ObjectVersion}
use Rattle.xt_protocol.specs.Primaries.{fed}
use Rattle.replica_primary.specs.Moves.{ground_beyond}
use Rattle.replica_primary.proofs.Hears.{feed_to, left_as}
use Rattle.replica_primary.proofs.gathering.feed_peer.Goals as goal

pub returns-then-not-is_to_feed-clause-value : goal.returns-then-not-is_to_feed-clause-value
returns-then-not-is_to_feed-clause-value g c =
    λ records agrees own held.
    let stands = ground_beyond c.args.place.now records c.args.fetched.now own held in
    left_as stands c.args.target.now c.args.peer.now (sym c.is_to_feed.ensures ∙ c.if-not-is_to_feed.true)

pub returns-clause-value : goal.returns-clause-value
returns-clause-value g c =
    λ records agrees own held.
    let stands = ground_beyond c.args.place.now records c.args.fetched.now own held in
    feed_to stands c.args.target.now c.args.peer.now _ (sym c.is_to_feed.ensures ∙ c.if-not-is_to_feed.false)
    (λ head is. c.put.ensures ∙ c.in_ok-state.ensures.value records agrees ∙ ap (λ (known : List ObjectVersion). fed stands.body c.args.target.now known) (c.in_ok-known.ensures head is))
