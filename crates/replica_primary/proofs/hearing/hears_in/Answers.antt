use Rattle.std.proofs.Common.{◌∙◌, List, ap, sym}
use Rattle.xt_protocol.specs.declared.states.Peer.{Peer}
use Rattle.xt_protocol.specs.Primaries.{peer_in}
use Rattle.xt_protocol.specs.PrimaryRows.{message_epoch}
use Rattle.replica_primary.specs.Shown.{shown_tenure}
use Rattle.replica_primary.specs.Written.{ground}
use Rattle.replica_primary.proofs.Given.{if_so}
use Rattle.replica_primary.proofs.Hears.{of_tenure}
use Rattle.replica_primary.proofs.hearing.hears_in.Goals as goal

pub returns-in-Some-peer_in-clause-row : goal.returns-in-Some-peer_in-clause-row
returns-in-Some-peer_in-clause-row c =
    if_so _ _ c.hears_peer.result c.hears_peer.ensures.row
    (λ heard of records.
    let from = c.args.from in
    let state = c.in-Some-peer_in.field-0.now in
    let is = ap (λ (peers : List Peer). peer_in peers from) (sym c.as_slice.ensures) ∙ c.in-Some-peer_in.ensures in
    let stands = ground c.args.place.now records c.args.own.now c.args.held.now in
    of records state is
    ∙ of_tenure stands c.args.learnt (shown_tenure c.args.tenure.now) from (message_epoch c.args.payload.now) c.in-Some.epoch state c.args.payload.now
    (sym c.message_epoch.ensures ∙ c.in-Some.is) (sym c.is_epoch.ensures ∙ c.if-not-is_epoch.false) is)
