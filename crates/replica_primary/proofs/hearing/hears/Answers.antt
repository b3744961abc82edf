use Rattle.std.proofs.Common.{◌∙◌, [], ap, sym}
use Rattle.xt_protocol.specs.Primaries.{Led}
use Rattle.xt_protocol.specs.PrimaryRows.{goes_on, hears}
use Rattle.replica_primary.specs.declared.moving.Heard.{Heard}
use Rattle.replica_primary.specs.Moves.{led_by}
use Rattle.replica_primary.specs.Shown.{shown_under}
use Rattle.replica_primary.specs.Written.{ground}
use Rattle.replica_primary.proofs.Given.{if_so, on_so}
use Rattle.replica_primary.proofs.InOrder.{committed_as, committed_shown, heard_row, shown_led}
use Rattle.replica_primary.proofs.Rises.{hears_rises}
use Rattle.replica_primary.proofs.hearing.hears.Goals as goal

pub returns-in-GoesOn-clause-row : goal.returns-in-GoesOn-clause-row
unfolding hears
returns-in-GoesOn-clause-row g c =
    if_so _ _ c.proceeds.result c.proceeds.ensures.value
    (λ turned of records agrees.
    let p = c.args.primary.now in
    let from = c.args.from in
    let content = c.args.payload.now in
    let stands = ground c.args.place.now records c.args.own.now c.args.held.now in
    let after = c.hears_in.new.tenure in
    heard_row stands p.learnt from p.tenure c.in-Some.tenure after c.in_ok-heard.heard content (goes_on p.learnt c.proceeds.new.tenure turned)
    (of records agrees p.learnt c.args.held.now ∙ ap (λ (h : Heard). led_by stands p.learnt from after h) (sym c.in-GoesOn.is))
    (c.in_ok-heard.ensures.row records) c.in-Some.is)

pub returns-in-GoesOn-clause-rises : goal.returns-in-GoesOn-clause-rises
returns-in-GoesOn-clause-rises g c =
    on_so _ _ c.proceeds.result c.proceeds.ensures.value
    (λ turned of o r.
    let p = c.args.primary.now in
    let seen = g.B.Bodies.some c.proceeds.new.bodies in
    let from = c.args.from in
    let content = c.args.payload.now in
    let stands = ground c.args.place.now seen.0 c.args.own.now c.args.held.now in
    let after = c.hears_in.new.tenure in
    let led = goes_on p.learnt c.proceeds.new.tenure turned in
    committed_as led.primary.tenure
    (hears_rises stands p.learnt o (shown_under p.tenure) (committed_shown p.tenure r) from content (shown_led led)
    (heard_row stands p.learnt from p.tenure c.in-Some.tenure after c.in_ok-heard.heard content led
    (of seen.0 seen.1 p.learnt c.args.held.now ∙ ap (λ (h : Heard). led_by stands p.learnt from after h) (sym c.in-GoesOn.is))
    (c.in_ok-heard.ensures.row seen.0) c.in-Some.is)))

pub returns-in-Staged-clause-row : goal.returns-in-Staged-clause-row
unfolding hears
returns-in-Staged-clause-row g c =
    if_so _ _ c.body_staged.result c.body_staged.ensures.value
    (λ turned of records agrees.
    let p = c.args.primary.now in
    let from = c.args.from in
    let content = c.args.payload.now in
    let stands = ground c.args.place.now records c.args.own.now c.args.held.now in
    let after = c.hears_in.new.tenure in
    heard_row stands p.learnt from p.tenure c.in-Some.tenure after c.in_ok-heard.heard content (goes_on p.learnt c.body_staged.new.tenure turned)
    (of records agrees p.learnt c.args.held.now ∙ ap (λ (h : Heard). led_by stands p.learnt from after h) (sym c.in-Staged.is))
    (c.in_ok-heard.ensures.row records) c.in-Some.is)

pub returns-in-Staged-clause-rises : goal.returns-in-Staged-clause-rises
returns-in-Staged-clause-rises g c =
    on_so _ _ c.body_staged.result c.body_staged.ensures.value
    (λ turned of o r.
    let p = c.args.primary.now in
    let seen = g.B.Bodies.some c.body_staged.new.bodies in
    let from = c.args.from in
    let content = c.args.payload.now in
    let stands = ground c.args.place.now seen.0 c.args.own.now c.args.held.now in
    let after = c.hears_in.new.tenure in
    let led = goes_on p.learnt c.body_staged.new.tenure turned in
    committed_as led.primary.tenure
    (hears_rises stands p.learnt o (shown_under p.tenure) (committed_shown p.tenure r) from content (shown_led led)
    (heard_row stands p.learnt from p.tenure c.in-Some.tenure after c.in_ok-heard.heard content led
    (of seen.0 seen.1 p.learnt c.args.held.now ∙ ap (λ (h : Heard). led_by stands p.learnt from after h) (sym c.in-Staged.is))
    (c.in_ok-heard.ensures.row seen.0) c.in-Some.is)))

pub returns-in-Missed-clause-row : goal.returns-in-Missed-clause-row
unfolding hears
returns-in-Missed-clause-row g c =
    if_so _ _ c.body_missed.result c.body_missed.ensures.value
    (λ turned of records agrees.
    let p = c.args.primary.now in
    let from = c.args.from in
    let content = c.args.payload.now in
    let stands = ground c.args.place.now records c.args.own.now c.args.held.now in
    let after = c.hears_in.new.tenure in
    heard_row stands p.learnt from p.tenure c.in-Some.tenure after c.in_ok-heard.heard content (goes_on p.learnt c.body_missed.new.tenure turned)
    (of records agrees p.learnt c.args.held.now ∙ ap (λ (h : Heard). led_by stands p.learnt from after h) (sym c.in-Missed.is))
    (c.in_ok-heard.ensures.row records) c.in-Some.is)

pub returns-in-Missed-clause-rises : goal.returns-in-Missed-clause-rises
returns-in-Missed-clause-rises g c =
    on_so _ _ c.body_missed.result c.body_missed.ensures.value
    (λ turned of o r.
    let p = c.args.primary.now in
    let seen = g.B.Bodies.some c.body_missed.new.bodies in
    let from = c.args.from in
    let content = c.args.payload.now in
    let stands = ground c.args.place.now seen.0 c.args.own.now c.args.held.now in
    let after = c.hears_in.new.tenure in
    let led = goes_on p.learnt c.body_missed.new.tenure turned in
    committed_as led.primary.tenure
    (hears_rises stands p.learnt o (shown_under p.tenure) (committed_shown p.tenure r) from content (shown_led led)
    (heard_row stands p.learnt from p.tenure c.in-Some.tenure after c.in_ok-heard.heard content led
    (of seen.0 seen.1 p.learnt c.args.held.now ∙ ap (λ (h : Heard). led_by stands p.learnt from after h) (sym c.in-Missed.is))
    (c.in_ok-heard.ensures.row seen.0) c.in-Some.is)))

pub returns-in-Counts-clause-row : goal.returns-in-Counts-clause-row
unfolding hears
returns-in-Counts-clause-row g c =
    λ records agrees.
    let p = c.args.primary.now in
    let from = c.args.from in
    let content = c.args.payload.now in
    let stands = ground c.args.place.now records c.args.own.now c.args.held.now in
    let after = c.hears_in.new.tenure in
    let led : Led = goes_on p.learnt after c.in-Counts.turned in
    heard_row stands p.learnt from p.tenure c.in-Some.tenure after c.in_ok-heard.heard content led
    (ap (λ (h : Heard). led_by stands p.learnt from after h) (sym c.in-Counts.is))
    (c.in_ok-heard.ensures.row records) c.in-Some.is

pub returns-in-Counts-clause-rises : goal.returns-in-Counts-clause-rises
returns-in-Counts-clause-rises g c =
    λ o r.
    let p = c.args.primary.now in
    let from = c.args.from in
    let content = c.args.payload.now in
    let stands = ground c.args.place.now [] c.args.own.now c.args.held.now in
    let after = c.hears_in.new.tenure in
    let led : Led = goes_on p.learnt after c.in-Counts.turned in
    committed_as led.primary.tenure
    (hears_rises stands p.learnt o (shown_under p.tenure) (committed_shown p.tenure r) from content (shown_led led)
    (heard_row stands p.learnt from p.tenure c.in-Some.tenure after c.in_ok-heard.heard content led
    (ap (λ (h : Heard). led_by stands p.learnt from after h) (sym c.in-Counts.is))
    (c.in_ok-heard.ensures.row []) c.in-Some.is))

pub returns-in_ok-redraws-in-Redraws-clause-row : goal.returns-in_ok-redraws-in-Redraws-clause-row
unfolding hears
returns-in_ok-redraws-in-Redraws-clause-row g c =
    λ records agrees.
    let p = c.args.primary.now in
    let from = c.args.from in
    let content = c.args.payload.now in
    let stands = ground c.args.place.now records c.args.own.now c.args.held.now in
    let after = c.hears_in.new.tenure in
    let led : Led = record { primary = c.redraws.new.primary; turned = c.in_ok-redraws-in-Redraws.field-0 } in
    heard_row stands p.learnt from p.tenure c.in-Some.tenure after c.in_ok-heard.heard content led
    (c.in_ok-redraws-in-Redraws.ensures.row ∙ ap (λ (h : Heard). led_by stands p.learnt from after h) (sym c.in-Redraws.is))
    (c.in_ok-heard.ensures.row records) c.in-Some.is

pub returns-in_ok-redraws-in-Redraws-clause-rises : goal.returns-in_ok-redraws-in-Redraws-clause-rises
returns-in_ok-redraws-in-Redraws-clause-rises g c =
    λ o r.
    let p = c.args.primary.now in
    let from = c.args.from in
    let content = c.args.payload.now in
    let stands = ground c.args.place.now [] c.args.own.now c.args.held.now in
    let after = c.hears_in.new.tenure in
    let led : Led = record { primary = c.redraws.new.primary; turned = c.in_ok-redraws-in-Redraws.field-0 } in
    committed_as led.primary.tenure
    (hears_rises stands p.learnt o (shown_under p.tenure) (committed_shown p.tenure r) from content (shown_led led)
    (heard_row stands p.learnt from p.tenure c.in-Some.tenure after c.in_ok-heard.heard content led
    (c.in_ok-redraws-in-Redraws.ensures.row ∙ ap (λ (h : Heard). led_by stands p.learnt from after h) (sym c.in-Redraws.is))
    (c.in_ok-heard.ensures.row []) c.in-Some.is))
