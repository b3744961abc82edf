use Rattle.std.proofs.Common.{◌∙◌, List, subst, sym}
use Rattle.std.specs.List.{All}
use Rattle.std.proofs.lemmas.Result.{IfOk-weaker}
use Rattle.xt_base.specs.declared.ids.FileId.{FileId}
use Rattle.object_store.specs.Access.{records_of}
use Rattle.orphan_sweep.specs.declared.fate.Fate.{Fate}
use Rattle.orphan_sweep.specs.Fates.{FitsFate}
use Rattle.sweep_job.proofs.Found.{fates_known, fates_fit}
use Rattle.sweep_job.proofs.sweeping.judged.Goals as goal

pub returns-clause-are : goal.returns-clause-are
returns-clause-are g c =
    IfOk-weaker c.judge_files.result _ _ (λ fates is. is
    ∙ fates_known (records_of c.args.store.now) c.records.result.now c.in_ok-folded.folded c.args.files.now c.args.times.now c.args.now c.records.ensures c.in_ok-folded.ensures)
    c.judge_files.ensures

pub returns-clause-fit : goal.returns-clause-fit
returns-clause-fit g c =
    let records = records_of c.args.store.now in
    IfOk-weaker c.judge_files.result _ _ (λ fates is. subst (λ (fs : List (FileId × Fate)). All FitsFate fs)
    (sym (is ∙ fates_known records c.records.result.now c.in_ok-folded.folded c.args.files.now c.args.times.now c.args.now c.records.ensures c.in_ok-folded.ensures))
    (fates_fit records c.requires c.args.files.now c.args.times.now c.args.now))
    c.judge_files.ensures
