use Rattle.std.proofs.Common.{◌∙◌}
use Rattle.replica_primary.specs.Feeding.{head_of}
use Rattle.replica_primary.specs.Written.{ground}
use Rattle.replica_primary.proofs.Fed.{fed_by, fed_to}
use Rattle.replica_primary.proofs.feeding.feeds_on.Goals as goal

pub returns-clause-value : goal.returns-clause-value
returns-clause-value g c =
    λ records agrees learnt held.
    let t = c.args.tenure.now in
    let from = c.args.from in
    let stands = ground c.args.place.now records c.args.own.now held in
    let head = head_of c.in-Some.target in
    fed_by stands learnt t from c.send_to_peer.new.tenure c.in_ok-send_to_peer.field-0 c.in_ok-state.state head c.args.known c.send_to_peer.ensures.state c.in_ok-send_to_peer.ensures.sent
    (c.in_ok-state.ensures.value records agrees)
    ∙ fed_to stands learnt t from head c.args.known c.in-Some.ensures.head
