use Rattle.std.proofs.Common.{◌∙◌, List, ap}
use Rattle.xt_protocol.specs.declared.states.Peer.{Peer}
use Rattle.xt_protocol.specs.PrimaryRows.{goes_on}
use Rattle.replica_primary.proofs.acking.ack_active.Goals as goal

pub returns-clause-value : goal.returns-clause-value
returns-clause-value c =
    λ learnt records held.
    let t = c.ack_issued.new.tenure in
    ap (λ (peers : List Peer). goes_on learnt (record { epoch = t.epoch; peers = peers; progress = t.progress }) c.in_ok-turned.turned) c.make_current.ensures
    ∙ c.in_ok-turned.ensures.value learnt records held
