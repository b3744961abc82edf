use Rattle.std.proofs.Common.{arith, rules, refl, ◌∙◌, ◌≤◌, ◌+◌, ◌≡◌}
use Rattle.client_loop.proofs.Waited.{cause_from}
use Rattle.client_loop.proofs.Hearing.{none_heard, heard_more, ends_late, ends_not, counts_more}
use Rattle.client_loop.proofs.driver.Driver.listen.Goals as goal

pub loop-init : goal.loop-init
loop-init g c = (refl, refl, refl, search rules, search rules, search rules, refl, refl, refl, refl, none_heard c.args.until c.args.self.now.listener _ _)

pub loop-preserved : goal.loop-preserved
loop-preserved g c =
    let inv = c.loop.invariant in
    let e = c.hear.ensures in
    let f = c.in-Ok-false.ensures in
    let more : c.hear.new.self.listener.spent ≡ c.loop.self.listener.spent + 1 =
    counts_more c.args.until c.loop.self.listener c.hear.new.self.listener _ _ _ _ c.in-Ok-false.field-0 c.in-Ok-false.field-0-test f.looked in
    let before : c.loop.counter ≤ c.loop.self.listener.spent = inv.5 in
    let on : c.loop.counter + 1 ≤ c.hear.new.self.listener.spent = omega arith in (
      e.same.0 ∙ inv.0,
      e.same.1 ∙ inv.1,
      e.turns.0 ∙ inv.2,
      e.turns.1,
      e.turns.2,
      on,
      e.sent.0 ∙ inv.6,
      e.sent.1 ∙ inv.7,
      f.sound.0 ∙ inv.8,
      f.sound.1 ∙ inv.9,
      heard_more c.args.until c.args.self.now.listener _ _ _ _ _ _ c.loop.self.listener inv.10 c.hear.new.self.listener c.in-Ok-false.field-0 c.in-Ok-false.field-0-test f.looked,
    )

pub returns-in-Ok-true-clause-listened : goal.returns-in-Ok-true-clause-listened
returns-in-Ok-true-clause-listened g c =
    ends_late c.args.until c.args.self.now.listener _ _ _ _ _ _ c.loop.self.listener c.loop.invariant.10 c.hear.new.self.listener c.in-Ok-true.field-0
    c.in-Ok-true.field-0-test c.in-Ok-true.ensures.looked

pub returns-in-Err-clause-cannot : goal.returns-in-Err-clause-cannot
returns-in-Err-clause-cannot g c = ends_not c.args.until c.args.self.now.listener _ _ _ _ _ _ c.loop.self.listener c.loop.invariant.10 _ c.in-Err.ensures.cannot

pub returns-in-Err-clause-cause : goal.returns-in-Err-clause-cause
returns-in-Err-clause-cause g c = cause_from _ _ _ _ _ _ _ c.loop.invariant.8 c.loop.invariant.9 c.in-Err.ensures.cause
