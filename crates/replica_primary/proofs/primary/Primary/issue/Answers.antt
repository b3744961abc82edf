use Rattle.std.proofs.Common.{◌∙◌, Option, Some, ap, sym}
use Rattle.xt_protocol.specs.declared.states.Tenure.{Tenure}
use Rattle.xt_protocol.specs.Primaries.{Led}
use Rattle.xt_protocol.specs.Serving.{writes}
use Rattle.replica_primary.specs.PrimaryViews.{PrimaryView}
use Rattle.replica_primary.specs.Shown.{shown_under}
use Rattle.replica_primary.specs.Written.{ground, led_under}
use Rattle.replica_primary.proofs.InOrder.{issued_shown, writes_shown}
use Rattle.replica_primary.proofs.primary.Primary.issue.Goals as goal

pub returns-in-None-clause-value : goal.returns-in-None-clause-value
returns-in-None-clause-value g c =
    λ records agrees own held.
    let p = c.self.inside.state in
    let op = c.args.op.now in
    sym (ap (led_under p.learnt (shown_under p.tenure)) c.in-None.is)
    ∙ writes_shown p.learnt (ground c.self.inside.place records own held) c.args.id c.args.epoch op c.in_ok-writes.field-0 p.tenure (c.in_ok-writes.ensures.value records agrees own held)
    ∙ ap (λ (v : PrimaryView). writes (ground v.place records own held) v.state c.args.id c.args.epoch op) c.self.view_is

pub returns-in-Some-clause-value : goal.returns-in-Some-clause-value
returns-in-Some-clause-value g c =
    λ records agrees own held.
    let p = c.self.inside.state in
    let op = c.args.op.now in
    let turned = c.in-Some.field-0.turned in
    let led : Option Tenure → Option Led = λ tenure. Some (record { primary = record { learnt = p.learnt; tenure = tenure }; turned = turned }) in
    ap (λ (tenure : Option Tenure). led (shown_under tenure)) c.put_issued.ensures.value
    ∙ ap led (issued_shown p.tenure c.in-Some.field-0.issued)
    ∙ sym (ap (led_under p.learnt (shown_under p.tenure)) c.in-Some.is)
    ∙ writes_shown p.learnt (ground c.self.inside.place records own held) c.args.id c.args.epoch op c.in_ok-writes.field-0 p.tenure (c.in_ok-writes.ensures.value records agrees own held)
    ∙ ap (λ (v : PrimaryView). writes (ground v.place records own held) v.state c.args.id c.args.epoch op) c.self.view_is
