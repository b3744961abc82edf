use Rattle.std.proofs.Common.{◌∙◌, ap, sym}
use Rattle.xt_protocol.specs.declared.turned.Turned.{Turned}
use Rattle.xt_protocol.specs.PrimaryRows.{goes_on}
use Rattle.replica_primary.specs.Acks.{current_after}
use Rattle.replica_primary.specs.Written.{ground}
use Rattle.replica_primary.proofs.Given.{if_so}
use Rattle.replica_primary.proofs.Acks.{current_later, below_acked, issued_acked, none_acked}
use Rattle.replica_primary.proofs.acking.ack_issued.Goals as goal

pub returns-in_default-clause-value : goal.returns-in_default-clause-value
returns-in_default-clause-value c =
    λ learnt records held.
    let t = c.args.tenure.now in
    let g = ground c.args.place.now records c.args.own.now held in
    ap (λ (u : Turned). goes_on learnt (current_after t c.args.from c.args.newly) u) c.quiet.ensures
    ∙ none_acked g learnt t.epoch t.peers c.args.from c.args.stamp c.args.newly t.progress c.requires c.in_default.ensures

pub returns-then-is_below-clause-value : goal.returns-then-is_below-clause-value
returns-then-is_below-clause-value c =
    if_so _ _ c.send_to_new_peer.result c.send_to_new_peer.ensures
    (λ turned of learnt records held.
    let t = c.args.tenure.now in
    let g = ground c.args.place.now records c.args.own.now held in
    let issued = c.in-Some.issued.now in
    ap (λ (u : Turned). goes_on learnt (current_after t c.args.from c.args.newly) u) of
    ∙ below_acked g learnt t.epoch t.peers c.args.from c.args.stamp c.args.newly t.progress issued c.requires c.in-Some.ensures (sym c.is_below.ensures ∙ c.if-is_below.true))

pub returns-clause-value : goal.returns-clause-value
returns-clause-value c =
    if_so _ _ c.acked_by.result c.acked_by.ensures.value
    (λ turned of learnt records held.
    let t = c.args.tenure.now in
    let g = ground c.args.place.now records c.args.own.now held in
    current_later c.args.from c.args.newly g.place g.own learnt t c.acked_by.new.tenure turned (of learnt)
    ∙ issued_acked g learnt t.epoch t.peers c.args.from c.args.stamp c.args.newly t.progress c.in-Some.issued.now c.requires c.in-Some.ensures (sym c.is_below.ensures ∙ c.if-is_below.false))
