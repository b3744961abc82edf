use Rattle.std.proofs.Common.{arith, rules, refl, ◌∙◌, ◌≤◌, ◌+◌, ◌≡◌}
use Rattle.client_loop.proofs.Waited.{has_begun, goes_on, ends_late, ends_heard, ends_not, cause_from, counts_on}
use Rattle.client_loop.proofs.driver.Driver.next.Goals as goal

pub loop-init : goal.loop-init
loop-init g c = (refl, refl, refl, search rules, search rules, search rules, refl, refl, refl, refl, has_begun c.args.until c.args.self.now.listener _ _)

pub returns-in-Ok-Late-clause-waited : goal.returns-in-Ok-Late-clause-waited
returns-in-Ok-Late-clause-waited g c =
    ends_late c.args.until c.args.self.now.listener _ _ _ _ _ _ c.loop.self.listener c.look.new.self.listener c.loop.invariant.10 c.in-Ok-Late.field-0 _ c.in-Ok-Late.field-0-is
    c.in-Ok-Late.ensures.looked

pub returns-in-Ok-Heard-clause-waited : goal.returns-in-Ok-Heard-clause-waited
returns-in-Ok-Heard-clause-waited g c =
    ends_heard c.args.until c.args.self.now.listener _ _ _ _ _ _ c.loop.self.listener c.look.new.self.listener c.loop.invariant.10 c.in-Ok-Heard.field-0 c.in-Ok-Heard.msg
    c.in-Ok-Heard.field-0-is c.in-Ok-Heard.ensures.looked

pub returns-in-Err-clause-cannot : goal.returns-in-Err-clause-cannot
returns-in-Err-clause-cannot g c = ends_not c.args.until c.args.self.now.listener _ _ _ _ _ _ c.loop.self.listener c.look.new.self.listener c.loop.invariant.10 _ c.in-Err.ensures.cannot

pub returns-in-Err-clause-cause : goal.returns-in-Err-clause-cause
returns-in-Err-clause-cause g c = cause_from _ _ _ _ _ _ _ c.loop.invariant.8 c.loop.invariant.9 c.in-Err.ensures.cause

pub loop-preserved : goal.loop-preserved
loop-preserved g c =
    let inv = c.loop.invariant in
    let e = c.look.ensures in
    let f = c.in-Ok-Nothing.ensures in
    let one = f.looked in
    let more : c.look.new.self.listener.spent ≡ c.loop.self.listener.spent + 1 =
    counts_on c.loop.self.listener c.look.new.self.listener one.look c.in-Ok-Nothing.field-0 one.is one.told c.in-Ok-Nothing.field-0-is in
    let before : c.loop.counter ≤ c.loop.self.listener.spent = inv.5 in
    let on : c.loop.counter + 1 ≤ c.look.new.self.listener.spent = omega arith in (
      e.same.0 ∙ inv.0,
      e.same.1 ∙ inv.1,
      e.turns.0 ∙ inv.2,
      e.turns.1,
      e.turns.2,
      on,
      e.sent.0 ∙ inv.6,
      e.sent.1 ∙ inv.7,
      f.faults.0 ∙ inv.8,
      f.faults.1 ∙ inv.9,
      goes_on c.args.until c.args.self.now.listener _ _ _ _ _ _ c.loop.self.listener c.look.new.self.listener inv.10 c.in-Ok-Nothing.field-0 c.in-Ok-Nothing.field-0-is one,
    )
