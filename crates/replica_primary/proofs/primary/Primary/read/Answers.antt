use Rattle.std.proofs.Common.{◌∙◌, ap}
use Rattle.xt_protocol.specs.Serving.{reads}
use Rattle.replica_primary.specs.PrimaryViews.{PrimaryView}
use Rattle.replica_primary.specs.Written.{ground}
use Rattle.replica_primary.proofs.Given.{if_so}
use Rattle.replica_primary.proofs.InOrder.{reads_shown}
use Rattle.replica_primary.proofs.primary.Primary.read.Goals as goal

pub returns-clause-value : goal.returns-clause-value
unfolding reads
returns-clause-value g c =
    let inside = c.self.inside in
    let op = c.args.op.now in
    if_so _ _ c.reads_under.result c.reads_under.ensures.value
    (λ answer of records agrees own held.
    of records agrees own held
    ∙ reads_shown inside.state.learnt (ground inside.place records own held) op inside.state.tenure
    ∙ ap (λ (v : PrimaryView). reads (ground v.place records own held) v.state op) c.self.view_is)
