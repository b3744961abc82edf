use Rattle.std.proofs.Common.{◌∙◌, List, ap}
use Rattle.std.specs.Prelude.{reverse}
use Rattle.std.proofs.lemmas.List.{reverse-reverse}
use Rattle.xt_messages.specs.declared.file.ObjectVersion.{ObjectVersion}
use Rattle.xt_protocol.specs.PrimaryRows.{fetches}
use Rattle.replica_primary.specs.Shown.{shown_tenure}
use Rattle.replica_primary.specs.Written.{ground}
use Rattle.replica_primary.proofs.Given.{if_so}
use Rattle.replica_primary.proofs.Hears.{keeps_none, other_chosen, own_chosen}
use Rattle.replica_primary.proofs.gathering.choose_head.Goals as goal

pub returns-then-source-place : goal.returns-then-source-place
returns-then-source-place c =
    λ learnt from records own.
    own_chosen (ground c.args.place.now records own c.args.held.now) learnt (shown_tenure c.args.tenure.now) (c.args.source, c.args.chosen) c.if-source-place.true

pub returns : goal.returns
returns c =
    if_so _ _ c.fetches.result c.fetches.ensures
    (λ next of learnt from records own.
    let t = shown_tenure c.args.tenure.now in
    let chosen = c.args.chosen in
    let source = c.args.source in
    let stands = ground c.args.place.now records own c.args.held.now in
    of learnt from records own c.args.held.now
    ∙ keeps_none stands learnt t chosen source (reverse c.last_first-wanted.result)
    ∙ ap (λ (wanted : List ObjectVersion). fetches stands learnt t chosen source (reverse wanted)) c.last_first-wanted.ensures
    ∙ ap (λ (wanted : List ObjectVersion). fetches stands learnt t chosen source wanted) (reverse-reverse c.in_ok-unheld.field-0 ∙ c.in_ok-unheld.ensures)
    ∙ other_chosen stands learnt t (source, chosen) c.if-source-place.false)
