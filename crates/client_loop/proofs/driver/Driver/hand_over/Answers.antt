use Rattle.std.proofs.Common.{rules, refl}
use Rattle.node_runs.proofs.Sending.{sends_none}
use Rattle.client_loop.proofs.Carried.{not_read, not_given, not_sent}
use Rattle.client_loop.proofs.driver.Driver.hand_over.Goals as goal

pub returns-in-Err-clause-not : goal.returns-in-Err-clause-not
returns-in-Err-clause-not g c =
    let failed = c.in-Err.ensures.failed in
    not_read _ c.args.handed.now _ _ _ _ _ refl failed.0 failed.1 refl (sends_none _ _)

pub returns-in-Err-give-clause-not : goal.returns-in-Err-give-clause-not
returns-in-Err-give-clause-not g c =
    let none = c.in-Err-give.ensures.none in
    not_given _ c.args.handed.now _ _ _ c.in-Ok.now _ none.1 none.0 c.in-Ok.ensures.reads refl (sends_none _ _)

pub returns-then-is_err-clause-not : goal.returns-then-is_err-clause-not
returns-then-is_err-clause-not g c =
    let step = c.in-Ok-give.ensures.step in
    not_sent _ c.args.handed.now _ _ _ c.in-Ok.now _ step.0 step.1 c.in-Ok.ensures.reads c.send_all.ensures.given (search rules)
