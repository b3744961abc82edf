use Rattle.std.proofs.lemmas.Result.{err_from_is_err_and}
use Rattle.xt_fields.specs.BasicFields.{list_at}
use Rattle.xt_wire.specs.FileFields.{session_at}
use Rattle.xt_fields.proofs.Loops.{as_fails, goes_on, ends, is_done}
use Rattle.xt_wire.proofs.file.session_list.Goals as goal

pub returns-in_err-entry : goal.returns-in_err-entry
returns-in_err-entry c =
    let p = err_from_is_err_and c.from_residual.result c.from_residual.ensures.1 in
    rw (p.1, p.2) (ends session_at c.in_err-entry.field-0.0 c.loop.list c.args.count c.loop.counter c.loop.fields (list_at session_at c.args.count c.args.fields.now) c.loop-test.true (as_fails c.in_err-entry.field-0.0 (session_at c.loop.fields) c.in_err-entry.ensures.0) c.loop.invariant)

pub loop-preserved : goal.loop-preserved
loop-preserved c =
    rw c.in_ok-push.ensures.ok (goes_on session_at c.loop.list c.args.count c.loop.counter c.loop.fields c.in_ok-entry.entry c.session.new.self (list_at session_at c.args.count c.args.fields.now) c.loop-test.true c.in_ok-entry.ensures c.loop.invariant)

pub returns : goal.returns
returns c = is_done session_at c.loop.list c.args.count c.loop.counter c.loop.fields (list_at session_at c.args.count c.args.fields.now) c.loop-test.false c.loop.invariant
