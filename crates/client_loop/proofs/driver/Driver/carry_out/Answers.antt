use Rattle.std.proofs.Common.{arith, rules, ◌∙◌, ◌≡◌, ◌≤◌, ◌<◌, ◌+◌, false}
use Rattle.client_loop.specs.Carrying.{is_over, tries_after}
use Rattle.client_loop.proofs.Carried.{begins, goes_further, stops_short}
use Rattle.client_loop.proofs.Ending.{called_rightly, called_tries}
use Rattle.client_loop.proofs.driver.Driver.carry_out.Goals as goal

pub loop-init : goal.loop-init
loop-init g c =
    let e = c.in-Ok.ensures in
    let few : tries_after c.in-Ok.course ≤ c.args.tries = called_tries _ _ _ _ e.called in (
      e.same.0,
      e.same.1,
      e.same.2,
      search rules,
      search rules,
      e.client.0,
      e.client.1,
      e.client.2,
      e.faults.0,
      e.faults.1,
      called_rightly _ _ _ _ e.called,
      e.within,
      search rules,
      search rules,
      omega arith,
      begins _ _ _ _ e.given e.called,
    )

pub returns-in-Err-advance-clause-cannot : goal.returns-in-Err-advance-clause-cannot
returns-in-Err-advance-clause-cannot g c =
    stops_short _ _ _ _ _ c.loop.invariant.15 c.advance.new.self c.advance.new.client c.in-Err-advance.error
    (let on : is_over (record { driver = c.loop.self; client = c.loop.client; course = c.loop.course }) ≡ false = search rules in on)
    c.in-Err-advance.ensures.not

pub loop-preserved : goal.loop-preserved
loop-preserved g c =
    let inv = c.loop.invariant in
    let e = c.in-Ok-advance.ensures in
    let before : c.loop.counter + tries_after c.loop.course ≤ c.loop.self.listener.spent + c.loop.course.due + c.args.tries = inv.14 in
    let nearer : c.loop.self.listener.spent + c.loop.course.due + tries_after c.in-Ok-advance.next < c.advance.new.self.listener.spent + c.in-Ok-advance.next.due + tries_after c.loop.course = e.nears.nearer in (
      e.same.0 ∙ inv.0,
      e.same.1 ∙ inv.1,
      e.same.2 ∙ inv.2,
      e.same.3 ∙ inv.3,
      e.same.4 ∙ inv.4,
      e.client.0 ∙ inv.5,
      e.client.1 ∙ inv.6,
      e.client.2,
      e.faults.0 ∙ inv.8,
      e.faults.1 ∙ inv.9,
      e.rests,
      e.nears.within,
      e.turns.0,
      e.turns.1,
      omega arith,
      goes_further _ _ _ _ _ inv.15 _ e.moved,
    )
