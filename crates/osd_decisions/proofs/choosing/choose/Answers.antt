use Rattle.std.proofs.Common.{◌∙◌, sym, subst, arith, ◌+◌}
use Rattle.osd_decisions.proofs.Chosen.{Report, IsBest, takes, keeps, best_found}
use Rattle.std.proofs.lemmas.List.{get_or_default}
use Rattle.osd_decisions.proofs.choosing.choose.Goals as goal
use Rattle.osd_decisions.proofs.choosing.choose.Goals.{then-is_better, else-is_better}

pub loop-place-preserved : goal.loop-place-preserved
loop-place-preserved c =
    let reports = c.args.reports.now in
    let place = c.loop-place.place in
    let best = c.loop-place.best in
    let new = λ (d : Report). c.index-reports-place.is ∙ get_or_default reports place c.index-reports-place.result d c.loop-place-test.true in
    let old = λ (d : Report). c.index-reports-best.is ∙ get_or_default reports best c.index-reports-best.result d (omega arith) in
    elim c.if-is_better.branch [
      | then-is_better w ↦ (
        omega arith,
        subst (IsBest c.args.own reports (place + 1)) (sym w.best-is)
            (takes c.args.own reports place best (omega arith) c.loop-place-test.true c.loop-place.invariant.1
            (λ d. rw (← new d, ← old d) (sym c.is_better.ensures ∙ w.if-is_better.true))),
      )
      | else-is_better w ↦ (
        omega arith,
        subst (IsBest c.args.own reports (place + 1)) (sym w.best-is)
            (keeps c.args.own reports place best (omega arith) c.loop-place-test.true c.loop-place.invariant.1
            (λ d. rw (← new d, ← old d) (sym c.is_better.ensures ∙ w.if-is_better.false))),
      )
    ]

pub returns : goal.returns
returns c = best_found c.args.own c.args.reports.now c.loop-place.place c.loop-place.best c.requires (omega arith) (omega arith) c.loop-place.invariant.1
