use Rattle.std.proofs.Common.{◌∙◌, ap, rules, ◌<◌, length}
use Rattle.xt_messages.specs.declared.file.FileHead.{FileHead}
use Rattle.xt_protocol.specs.PrimaryRows.{choose_head}
use Rattle.replica_primary.specs.Shown.{shown_tenure}
use Rattle.replica_primary.specs.Written.{ground}
use Rattle.replica_primary.proofs.Given.{if_so}
use Rattle.replica_primary.proofs.Hears.{best_at, chooses_best}
use Rattle.replica_primary.proofs.gathering.chooses.Goals as goal

pub returns : goal.returns
returns c =
    let t = shown_tenure c.args.tenure.now in
    let reports = c.args.reports.now in
    let best = c.index-reports-choose.result in
    let some : 0 < length reports = search rules in
    if_so _ _ c.choose_head.result c.choose_head.ensures
    (λ next of learnt from records own.
    let stands = ground c.args.place.now records own c.args.held.now in
    of learnt from records own
    ∙ ap (λ (head : FileHead). choose_head stands learnt t (best.0, head)) c.in_ok-chosen.ensures
    ∙ chooses_best stands learnt t reports best
    (best_at c.args.place.now.node reports c.choose.result best some c.choose.ensures c.index-reports-choose.is))
