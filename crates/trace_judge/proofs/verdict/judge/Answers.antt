use Rattle.std.proofs.Common.{◌≡◌, ◌∙◌, ap, sym, subst, IfOk}
use Rattle.time_line.specs.TimeLine.{location_in}
use Rattle.trace_judge.specs.declared.verdict.Verdict.{Verdict}
use Rattle.trace_judge.specs.Found.{verdict_of}
use Rattle.trace_judge.proofs.Walk.{judged_replicated, judged_other}
use Rattle.trace_judge.proofs.verdict.judge.Goals as goal

pub returns-in-Some : goal.returns-in-Some
returns-in-Some c =
    let here = c.get.ensures ∙ c.trace.invariant.locations c.args.file ∙ ap (location_in c.args.file) c.trace.view_is in
    subst (λ (x : Verdict). IfOk c.judge_replicated.result (λ v. v ≡ x)) (ap verdict_of (judged_replicated c.args.file c.in-Some.stripe c.args.trace.now _ here (sym c.in-Some.is ∙ c.stripe_of.ensures)))
    c.judge_replicated.ensures

pub returns-in-None : goal.returns-in-None
returns-in-None c =
    let here = c.get.ensures ∙ c.trace.invariant.locations c.args.file ∙ ap (location_in c.args.file) c.trace.view_is in
    ap verdict_of (judged_other c.args.file c.args.trace.now _ here (sym c.in-None.is ∙ c.stripe_of.ensures))
