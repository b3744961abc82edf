use Rattle.std.proofs.Common.{◌∙◌, ap}
use Rattle.xt_protocol.specs.Serving.{wakes}
use Rattle.replica_primary.specs.PrimaryViews.{PrimaryView}
use Rattle.replica_primary.proofs.Given.{if_so}
use Rattle.replica_primary.proofs.InOrder.{wakes_shown}
use Rattle.replica_primary.proofs.primary.Primary.wake.Goals as goal

pub returns : goal.returns
returns c =
    let inside = c.self.inside in
    if_so _ _ c.wakes.result c.wakes.ensures
    (λ led of. of ∙ wakes_shown inside.state.learnt inside.place inside.state.tenure ∙ ap (λ (v : PrimaryView). wakes v.place v.state) c.self.view_is)
