use Rattle.std.proofs.Common.{◌∙◌, ap, sym, Bor, Option}
use Rattle.std.specs.Option.{option_map}
use Rattle.xt_messages.specs.declared.file.FileHead.{FileHead}
use Rattle.xt_protocol.specs.Forgetting.{versions_if}
use Rattle.osd_files.proofs.Needs.{chosen_needs, rested_needs}
use Rattle.osd_files.proofs.lead.needed_by.Goals as goal

pub returns-in-Some : goal.returns-in-Some
returns-in-Some c =
    let p = c.args.primary.now in
    c.as_slice.ensures ∙ chosen_needs p.place.node p.state.tenure c.in-Some.chosen.now c.in-Some.ensures

pub returns-in-None : goal.returns-in-None
returns-in-None c =
    let p = c.args.primary.now in
    let none = ap (λ (o : Option (Bor FileHead)). option_map (λ (h : Bor FileHead). h.now) o) (sym c.in-None.is) ∙ c.chosen.ensures in
    c.versions_if.ensures ∙ ap versions_if c.rests_on.ensures ∙ rested_needs p.place.node p.state.tenure none
