use Rattle.std.proofs.Common.{◌∙◌, ◌++◌, [], List, ap, arith, get_or, sym}
use Rattle.std.proofs.lemmas.List.{get_or_default}
use Rattle.xt_messages.specs.declared.record.Record.{Record}
use Rattle.scrub.specs.declared.found.Found.{Found}
use Rattle.scrub.specs.declared.found.Found.TheVariants as found
use Rattle.scrub.specs.Report.{seals_for}
use Rattle.scrub_job.proofs.Seals.{seals_next}
use Rattle.scrub_job.proofs.sealing.seals_of.Goals as goal

pub loop-i-preserved : goal.loop-i-preserved
loop-i-preserved c =
    let item = c.index-items-i.result in
    let of : Found = get_or c.args.report.now c.loop-i.i (found.New []) in
    c.in_ok-push_seal.ensures
    ∙ ap (λ (seals : List Record). seals ++ seals_for item of) c.loop-i.invariant
    ∙ sym (seals_next c.args.items.now c.args.report.now c.loop-i.i item of c.loop-i-test.true c.requires c.index-items-i.is
    (get_or_default c.args.report.now c.loop-i.i (found.New []) of (omega (arith, c.loop-i-test.true, c.requires))))
