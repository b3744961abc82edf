use Rattle.std.proofs.Common.{◌≡◌, ◌∙◌, ℕ, List, map, sym, ap, subst, IfOk}
use Rattle.time_line.specs.declared.entry.Entry.{Entry}
use Rattle.judging.specs.Pass.{judged}
use Rattle.trace_judge.specs.Found.{verdict_of, least_verdict}
use Rattle.trace_judge.proofs.Lesser.{least_judged, is_verdict}
use Rattle.trace_audit.proofs.Verdicts.{zip_oks}
use Rattle.trace_audit.proofs.verdict.audit_halves.Goals as goal

pub returns-clause-pass : goal.returns-clause-pass
returns-clause-pass g c =
    least_judged c.args.entries.now c.in_ok-files.files.items c.in_ok-verdicts.verdicts.items c.least.result c.in_ok-files.ensures
    (zip_oks _ (λ file. verdict_of (judged file c.in_ok-trace.trace)) (λ x y r. subst (λ f. IfOk y (λ v. v ≡ verdict_of (judged f c.in_ok-trace.trace))) r.shows r.says.met)
    c.as_slice.result.now c.in_ok-results.results.items c.in_ok-verdicts.verdicts.items c.in_ok-results.ensures (sym c.as_slice-2.ensures.value ∙ c.in_ok-verdicts.ensures)
    ∙ ap (λ (fs : List ℕ). map (λ file. verdict_of (judged file c.in_ok-trace.trace)) fs) c.as_slice.ensures.value
    ∙ ap (λ (es : List Entry). map (λ file. verdict_of (judged file es)) c.in_ok-files.files.items) c.in_ok-trace.ensures)
    (c.least.ensures ∙ ap least_verdict c.as_slice-3.ensures.value)

pub returns-clause-verdict : goal.returns-clause-verdict
returns-clause-verdict g c = λ first. is_verdict c.args.entries.now c.least.result first (returns-clause-pass g c)
