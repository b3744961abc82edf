use Rattle.std.proofs.Common.{◌≡◌, ◌∙◌, ◌-◌, ◌+◌, ℕ, get_or, drop, refl, sym, ap, arith}
use Rattle.trace_judge.specs.Found.{least_verdict, lesser_verdict}
use Rattle.trace_judge.specs.declared.verdict.Verdict.TheVariants as verdict
use Rattle.trace_judge.proofs.Lesser.{least_more, least_none}
use Rattle.trace_judge.proofs.whole.least.Goals as goal

pub loop-count-init : goal.loop-count-init
loop-count-init c = (omega arith, least_none c.args.verdicts.now)

pub loop-count-preserved : goal.loop-count-preserved
loop-count-preserved c =
    let all = c.args.verdicts.now in
    let n = c.loop-count.count - 1 in
    let back : n + 1 ≡ c.loop-count.count = omega (arith, c.loop-count-test.true) in
    let here = get_or all n verdict.Safe in (
      omega (arith, c.loop-count.invariant.0),
      c.lesser-found.ensures
          ∙ ap (lesser_verdict here) (c.loop-count.invariant.1 ∙ ap (λ (m : ℕ). least_verdict (drop m all)) (sym back))
          ∙ sym (least_more all n here verdict.Safe (omega (arith, c.loop-count.invariant.0, c.loop-count-test.true)) refl),
    )
