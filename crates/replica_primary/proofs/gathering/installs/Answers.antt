use Rattle.std.proofs.Common.{◌∙◌, ◌∷◌, List, ap}
use Rattle.xt_protocol.specs.declared.states.Peer.{Peer}
use Rattle.replica_primary.specs.Moves.{ground_beyond}
use Rattle.xt_messages.specs.declared.message.Payload.TheVariants as payload
use Rattle.xt_protocol.specs.Turns.{message, sends}
use Rattle.xt_protocol.specs.Primaries.{last_to_each}
use Rattle.replica_primary.proofs.Hears.{installed}
use Rattle.replica_primary.proofs.gathering.installs.Goals as goal

pub returns-clause-value : goal.returns-clause-value
returns-clause-value g c =
    λ records agrees learnt held.
    let stands = ground_beyond c.args.place.now records c.args.fetched.now c.args.own.now held in
    let target = c.in_ok-target.target in
    let installing = c.advance.new.tenure in
    installed stands learnt c.args.tenure.now installing c.args.chosen target c.feed_peers.new.peers c.in_ok-send_install.field-0 c.new-acked.result
    c.advance.ensures (c.in_ok-target.ensures ∙ c.target_of.ensures.head) (c.in_ok-feed_peers.ensures.value records agrees)
    (c.in_ok-send_install.ensures
    ∙ ap (λ (peers : List Peer). sends (message stands.place.node stands.place.node (payload.Head stands.place.file installing.epoch target) ∷ last_to_each stands.place installing.epoch peers))
    c.as_slice.ensures)
    c.new-acked.ensures
