use Rattle.std.proofs.Common.{◌∙◌, List, ap, sym}
use Rattle.xt_protocol.specs.declared.states.Peer.{Peer}
use Rattle.xt_protocol.specs.Primaries.{peer_in}
use Rattle.replica_primary.specs.Shown.{shown_tenure}
use Rattle.replica_primary.specs.Written.{ground}
use Rattle.replica_primary.proofs.Given.{if_so}
use Rattle.replica_primary.proofs.Hears.{first_status}
use Rattle.replica_primary.proofs.hearing.hears_status.Goals as goal

pub returns : goal.returns
returns c =
    if_so _ _ c.take_status.result c.take_status.ensures
    (λ next of learnt records own state is.
    let from = c.args.from in
    let told = ap (λ (peers : List Peer). peer_in peers from) c.as_slice.ensures ∙ is in
    let stands = ground c.args.place.now records own c.args.held.now in
    of learnt records own
    ∙ first_status stands learnt (shown_tenure c.args.tenure.now) from state c.args.head.now (sym (c.is_unknown.ensures state told) ∙ c.if-not-is_unknown.false))
