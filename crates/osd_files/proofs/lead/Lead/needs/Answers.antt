use Rattle.std.proofs.Common.{◌≡◌, ◌∙◌, ap, sym, subst, Some, Option}
use Rattle.xt_protocol.specs.declared.states.Place.{Place}
use Rattle.xt_protocol.specs.Forgetting.{versions_under}
use Rattle.osd_files.specs.Leads.{LeadView, StandsAt, location_in, primary_in}
use Rattle.osd_files.specs.declared.lead.Listed.{Listed}
use Rattle.osd_files.proofs.lead.Lead.needs.Goals as goal

pub returns-in-Some : goal.returns-in-Some
returns-in-Some c =
    let inside = c.self.inside in
    let l = c.in-Some.listed in
    let made = c.needed_by.result.now in
    let stands : StandsAt inside.node inside.file (Some l) = subst (StandsAt inside.node inside.file) c.in-Some.is c.self.invariant.0 in
    let P : LeadView → Type 0 = λ v. made ≡ versions_under v.node v.primary.tenure in
    let view : Option Listed → LeadView = λ o. record { node = inside.node; file = inside.file; location = location_in o; primary = primary_in o } in
    subst P c.self.view_is
    (subst (λ (o : Option Listed). P (view o)) (sym c.in-Some.is) (c.needed_by.ensures ∙ ap (λ (p : Place). versions_under p.node l.primary.state.tenure) stands))
