use Rattle.std.proofs.Common.{◌∙◌, Bool, List, true, ap, sym}
use Rattle.xt_protocol.specs.declared.states.Peer.{Peer}
use Rattle.xt_protocol.specs.PrimaryRows.{goes_on, hears_ack}
use Rattle.replica_primary.specs.Written.{ground}
use Rattle.replica_primary.proofs.Acks.{current_later, installing_by}
use Rattle.replica_primary.proofs.acking.ack_installing.Goals as goal

pub returns-clause-value : goal.returns-clause-value
returns-clause-value c =
    λ learnt records held stamp.
    let t = c.args.tenure.now in
    let from = c.args.from in
    let after = c.acked_by.new.tenure in
    let turned = c.in_ok-turned.turned in
    let g = ground c.args.place.now records c.args.own.now held in
    ap (λ (peers : List Peer). goes_on learnt (record { epoch = after.epoch; peers = peers; progress = after.progress }) turned) c.set_peer.ensures
    ∙ current_later from true g.place g.own learnt t after turned (c.in_ok-turned.ensures.value learnt)
    ∙ installing_by g learnt t from stamp t.progress c.requires
    ∙ ap (λ (newly : Bool). hears_ack g learnt t t.progress from newly stamp) (sym c.if-not-newly.false)
