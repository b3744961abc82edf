use Rattle.std.proofs.Common.{sym, ◌∙◌, ap}
use Rattle.xt_protocol.specs.Folds.{folded_after}
use Rattle.xt_protocol.proofs.Folds.{fold_of-nothing}
use Rattle.replica_records.proofs.FileRows.{fold_more}
use Rattle.replica_records.proofs.folding.fold.Goals as goal

pub loop-rec-init : goal.loop-rec-init
loop-rec-init c = c.new-folding.ensures ∙ sym fold_of-nothing

pub loop-rec-preserved : goal.loop-rec-preserved
loop-rec-preserved c =
    c.in_ok-take.ensures.ok
    ∙ ap (λ f. folded_after f c.rec-item.result) c.loop-rec.invariant
    ∙ fold_more c.args.records.now c.loop-rec.rec-index c.rec-item.result c.loop-rec-test.true c.rec-item.is
