use Rattle.std.proofs.Common.{◌∙◌, Option, ap, sym}
use Rattle.xt_protocol.specs.declared.states.PeerState.{PeerState}
use Rattle.replica_primary.specs.Moves.{misses_in}
use Rattle.replica_primary.specs.Shown.{shown_progress, shown_tenure}
use Rattle.replica_primary.specs.Written.{ground}
use Rattle.replica_primary.proofs.Hears.{missed_later}
use Rattle.replica_primary.proofs.InOrder.{source_shown}
use Rattle.replica_primary.proofs.fetching.hears_missing.Goals as goal

pub returns-in_default : goal.returns-in_default
returns-in_default c =
    λ place records own held state is.
    let t = c.args.tenure.now in
    let from = c.args.from in
    let stands = ground place records own held in
    ap (λ (s : Option PeerState). misses_in stands c.args.learnt (shown_tenure t) from s c.args.version) is
    ∙ missed_later stands c.args.learnt (shown_tenure t) (shown_progress t.progress) from state c.args.version (source_shown t.progress ∙ sym c.source_of.ensures ∙ c.in_default.is)
