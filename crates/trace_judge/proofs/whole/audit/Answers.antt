use Rattle.std.proofs.Common.{◌∙◌, ℕ, List, map, ap}
use Rattle.time_line.specs.declared.entry.Entry.{Entry}
use Rattle.judging.specs.Pass.{judged}
use Rattle.trace_judge.specs.Found.{verdict_of, least_verdict}
use Rattle.trace_judge.proofs.Lesser.{least_judged, is_verdict}
use Rattle.trace_judge.proofs.whole.audit.Goals as goal

pub returns-clause-pass : goal.returns-clause-pass
returns-clause-pass c =
    least_judged c.args.entries.now c.in_ok-files.files.items c.in_ok-verdicts.verdicts.items c.least.result c.in_ok-files.ensures
    (c.in_ok-verdicts.ensures ∙ ap (λ (fs : List ℕ). map (λ file. verdict_of (judged file c.in_ok-trace.trace)) fs) c.as_slice.ensures.value
    ∙ ap (λ (es : List Entry). map (λ file. verdict_of (judged file es)) c.in_ok-files.files.items) c.in_ok-trace.ensures)
    (c.least.ensures ∙ ap least_verdict c.as_slice-2.ensures.value)

pub returns-clause-verdict : goal.returns-clause-verdict
returns-clause-verdict c = λ first. is_verdict c.args.entries.now c.least.result first (returns-clause-pass c)
