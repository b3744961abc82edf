use Rattle.std.proofs.Common.{subst, Some}
use Rattle.xt_protocol.specs.declared.states.Place.{Place}
use Rattle.xt_protocol.specs.PrimaryRows.{draw_epoch}
use Rattle.osd_files.specs.Counts.{IsCountedIn}
use Rattle.osd_files.specs.Leads.{StandsAt}
use Rattle.osd_files.proofs.Counted.{begin_counted, place_begun}
use Rattle.osd_files.proofs.lead.Lead.begin.Goals as goal

pub invariant_of-self : goal.invariant_of-self
invariant_of-self c =
    let inside = c.self.inside in
    let l = c.in-Some.listed in
    let stands : StandsAt inside.node inside.file (Some l) = subst (StandsAt inside.node inside.file) c.in-Some.is c.self.invariant.0 in
    let counted : IsCountedIn (Some l) = subst IsCountedIn c.in-Some.is c.self.invariant.1 in
    let place : Place = record { node = inside.node; file = inside.file; stripe = l.location.stripe } in
    let drawn = draw_epoch l.primary.place l.primary.state.learnt c.args.own.now l.location.members in (
      place_begun l.primary c.begin.new.self drawn.primary place c.begin.result stands c.begin.ensures.state c.begin.ensures.same,
      begin_counted l.primary c.begin.new.self c.args.own.now l.location.members c.begin.result counted c.begin.ensures.state c.begin.ensures.same,
    )
