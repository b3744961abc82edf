use Rattle.std.proofs.Common.{◌≡◌, ap, sym, subst, Some, Option, List, IfOk}
use Rattle.xt_messages.specs.declared.record.Record.{Record}
use Rattle.xt_protocol.specs.declared.turned.Turned.{Turned}
use Rattle.xt_protocol.specs.declared.states.Place.{Place}
use Rattle.xt_protocol.specs.declared.states.PrimaryState.{PrimaryState}
use Rattle.xt_protocol.specs.Primaries.{Ground}
use Rattle.xt_protocol.specs.PrimaryRows.{hears}
use Rattle.replica_primary.specs.Moves.{is_light_led}
use Rattle.replica_primary.specs.PrimaryViews.{PrimaryView}
use Rattle.replica_primary.specs.Written.{ground}
use Rattle.osd_files.specs.Counts.{IsCountedIn}
use Rattle.osd_files.specs.Leads.{LeadView, StandsAt, place_of, location_in, primary_in}
use Rattle.osd_files.specs.declared.lead.Listed.{Listed}
use Rattle.osd_files.proofs.Acked.{place_taken, take_counted}
use Rattle.osd_files.proofs.Rows.{for_one, if_ok}
use Rattle.osd_files.proofs.lead.Lead.take.Goals as goal

pub returns-clause-state : goal.returns-clause-state
returns-clause-state g c =
    let inside = c.self.inside in
    let l = c.in-Some.listed in
    let own = c.args.own.now in
    let held = c.args.held.now in
    let from = c.args.from in
    let content = c.args.payload.now in
    let agrees = g.B.Bodies.agrees c.take.new.bodies in
    let stands : StandsAt inside.node inside.file (Some l) = subst (StandsAt inside.node inside.file) c.in-Some.is c.self.invariant.0 in
    let whole : PrimaryState → LeadView = λ s. record { node = inside.node; file = inside.file; location = Some l.location; primary = s } in
    let taken = whole c.take.new.self.state in
    let heard : Place → List Record → PrimaryState = λ p records. (hears (ground p records own held) l.primary.state from content).primary in
    let Q : Turned → Type 0 = λ led. (records : List Record) → agrees records → c.take.new.self ≡ record l.primary { state = heard l.primary.place records } in
    let R : Place → Turned → Type 0 = λ p led. (records : List Record) → agrees records → taken ≡ whole (heard p records) in
    let P : LeadView → Type 0 = λ v. IfOk c.take.result (λ led. (records : List Record) → agrees records → taken ≡ record v { primary = (hears (ground (place_of v) records own held) v.primary from content).primary }) in
    let view : Option Listed → LeadView = λ o. record { node = inside.node; file = inside.file; location = location_in o; primary = primary_in o } in
    let all : (led : Turned) → Q led → R l.primary.place led = λ led is records agree. ap (λ (v : PrimaryView). whole v.state) (is records agree) in
    let here = if_ok Q (R l.primary.place) c.take.result all c.take.ensures.state in
    subst P c.self.view_is (subst (λ (o : Option Listed). P (view o)) (sym c.in-Some.is) (subst (λ (p : Place). IfOk c.take.result (R p)) stands here))

pub returns-clause-led : goal.returns-clause-led
returns-clause-led g c =
    let inside = c.self.inside in
    let l = c.in-Some.listed in
    let own = c.args.own.now in
    let held = c.args.held.now in
    let from = c.args.from in
    let content = c.args.payload.now in
    let agrees = g.B.Bodies.agrees c.take.new.bodies in
    let stands : StandsAt inside.node inside.file (Some l) = subst (StandsAt inside.node inside.file) c.in-Some.is c.self.invariant.0 in
    let R : Place → Type 0 = λ p. IfOk c.take.result (λ led. (records : List Record) → agrees records → led ≡ (hears (ground p records own held) l.primary.state from content).turned) in
    let P : LeadView → Type 0 = λ v. IfOk c.take.result (λ led. (records : List Record) → agrees records → led ≡ (hears (ground (place_of v) records own held) v.primary from content).turned) in
    let view : Option Listed → LeadView = λ o. record { node = inside.node; file = inside.file; location = location_in o; primary = primary_in o } in
    subst P c.self.view_is (subst (λ (o : Option Listed). P (view o)) (sym c.in-Some.is) (subst R stands c.take.ensures.led))

pub invariant_of-self : goal.invariant_of-self
invariant_of-self g c =
    let inside = c.self.inside in
    let l = c.in-Some.listed in
    let by : List Record → Ground = λ records. ground l.primary.place records c.args.own.now c.args.held.now in
    let heard : List Record → PrimaryState = λ records. (hears (by records) l.primary.state c.args.from c.args.payload.now).primary in
    let stands : StandsAt inside.node inside.file (Some l) = subst (StandsAt inside.node inside.file) c.in-Some.is c.self.invariant.0 in
    let counted : IsCountedIn (Some l) = subst IsCountedIn c.in-Some.is c.self.invariant.1 in
    let place : Place = record { node = inside.node; file = inside.file; stripe = l.location.stripe } in
    let agrees = g.B.Bodies.agrees c.take.new.bodies in
    let one = g.B.Bodies.some c.take.new.bodies in
    let light = is_light_led c.args.payload.now in
    let P : List Record → Turned → Type 0 = λ records led. c.take.new.self ≡ record l.primary { state = heard records } in
    let state = for_one agrees P c.take.result one c.take.ensures.state in (
      place_taken l.primary c.take.new.self (heard one.0) place light c.take.result stands state c.take.ensures.idle c.take.ensures.same,
      take_counted l.location.members (by one.0) l.primary c.take.new.self c.args.from c.args.payload.now light c.take.result counted state c.take.ensures.idle c.take.ensures.same,
    )
