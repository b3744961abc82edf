use Rattle.std.proofs.Common.{◌≡◌, sym, subst, Some, Option, List, IfOk}
use Rattle.std.specs.Option.{option_map}
use Rattle.xt_messages.specs.declared.file.FileHead.{FileHead}
use Rattle.xt_messages.specs.declared.file.ObjectVersion.{ObjectVersion}
use Rattle.xt_messages.specs.declared.record.Record.{Record}
use Rattle.xt_protocol.specs.declared.turned.Turned.{Turned}
use Rattle.xt_protocol.specs.declared.states.Place.{Place}
use Rattle.xt_protocol.specs.Primaries.{Led}
use Rattle.xt_protocol.specs.Serving.{writes}
use Rattle.replica_primary.specs.Written.{ground}
use Rattle.osd_files.specs.Leads.{LeadView, StandsAt, place_of, location_in, primary_in}
use Rattle.osd_files.specs.Counts.{IsCountedIn}
use Rattle.osd_files.proofs.Counted.{issue_counted, place_kept}
use Rattle.osd_files.specs.declared.lead.Listed.{Listed}
use Rattle.osd_files.proofs.Rows.{for_one}
use Rattle.osd_files.proofs.lead.Lead.issue.Goals as goal

pub returns-clause-value : goal.returns-clause-value
returns-clause-value g c =
    let inside = c.self.inside in
    let l = c.in-Some.listed in
    let agrees = g.B.Bodies.agrees c.issue.new.bodies in
    let stands : StandsAt inside.node inside.file (Some l) = subst (StandsAt inside.node inside.file) c.in-Some.is c.self.invariant.0 in
    let led_by : Turned → Led = λ turned. record { primary = c.issue.new.self.state; turned = turned } in
    let R : Place → Type 0 = λ p. IfOk c.issue.result (λ led. (records : List Record) → agrees records → (own : FileHead) (held : List ObjectVersion) → option_map led_by led ≡ writes (ground p records own held) l.primary.state c.args.id c.args.epoch c.args.op.now) in
    let P : LeadView → Type 0 = λ v. IfOk c.issue.result (λ led. (records : List Record) → agrees records → (own : FileHead) (held : List ObjectVersion) → option_map led_by led ≡ writes (ground (place_of v) records own held) v.primary c.args.id c.args.epoch c.args.op.now) in
    let view : Option Listed → LeadView = λ o. record { node = inside.node; file = inside.file; location = location_in o; primary = primary_in o } in
    subst P c.self.view_is (subst (λ (o : Option Listed). P (view o)) (sym c.in-Some.is) (subst R stands c.issue.ensures.value))

pub invariant_of-self : goal.invariant_of-self
invariant_of-self g c =
    let inside = c.self.inside in
    let l = c.in-Some.listed in
    let stands : StandsAt inside.node inside.file (Some l) = subst (StandsAt inside.node inside.file) c.in-Some.is c.self.invariant.0 in
    let counted : IsCountedIn (Some l) = subst IsCountedIn c.in-Some.is c.self.invariant.1 in
    let place : Place = record { node = inside.node; file = inside.file; stripe = l.location.stripe } in
    let agrees = g.B.Bodies.agrees c.issue.new.bodies in
    let one = g.B.Bodies.some c.issue.new.bodies in
    let led_by : Turned → Led = λ turned. record { primary = c.issue.new.self.state; turned = turned } in
    let P : List Record → Option Turned → Type 0 = λ records led. (own : FileHead) (held : List ObjectVersion) → option_map led_by led ≡ writes (ground l.primary.place records own held) l.primary.state c.args.id c.args.epoch c.args.op.now in
    let value = for_one agrees P c.issue.result one c.issue.ensures.value in (
      place_kept l.primary c.issue.new.self place c.issue.result stands c.issue.ensures.place c.issue.ensures.same,
      issue_counted l.location.members l.primary.place one.0 l.primary c.issue.new.self c.args.id c.args.epoch c.args.op.now c.issue.result counted value
          c.issue.ensures.waits c.issue.ensures.same,
    )
