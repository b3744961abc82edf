use Rattle.std.proofs.Common.{◌∙◌, List, Option, ap}
use Rattle.xt_base.specs.declared.ids.NodeId.{NodeId}
use Rattle.xt_protocol.specs.declared.states.Tenure.{Tenure}
use Rattle.xt_protocol.specs.Primaries.{Led}
use Rattle.xt_protocol.specs.PrimaryRows.{draw_epoch}
use Rattle.replica_primary.specs.PrimaryViews.{PrimaryView}
use Rattle.replica_primary.specs.Shown.{shown_state}
use Rattle.replica_primary.proofs.InOrder.{drawn_shown, shown_led}
use Rattle.replica_primary.proofs.primary.Primary.begin.Goals as goal

pub returns-clause-state : goal.returns-clause-state
returns-clause-state c =
    let inside = c.self.inside in
    let learnt = inside.state.learnt in
    let own = c.args.own.now in
    let members = c.args.members.now in
    let of_tenure : Option Tenure → PrimaryView = λ t. record { place = inside.place; state = shown_state (record { learnt = learnt; tenure = t }) } in
    let of_led : Led → PrimaryView = λ led. record { place = inside.place; state = led.primary } in
    ap of_tenure c.put.ensures
    ∙ ap (λ (led : Led). of_led (shown_led led)) c.in_ok-drawn.ensures.row
    ∙ ap of_led (drawn_shown inside.place learnt own c.as_slice.result.now)
    ∙ ap (λ (nodes : List NodeId). of_led (draw_epoch inside.place learnt own nodes)) c.as_slice.ensures.list
    ∙ ap (λ (v : PrimaryView). let w : PrimaryView = record { place = v.place; state = (draw_epoch v.place v.state.learnt own members).primary } in w) c.self.view_is
