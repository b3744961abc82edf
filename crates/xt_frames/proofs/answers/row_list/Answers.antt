use Rattle.std.proofs.lemmas.Result.{err_from_is_err_and}
use Rattle.xt_fields.specs.BasicFields.{list_at}
use Rattle.xt_frames.specs.RegistryAnswers.{row_at}
use Rattle.xt_fields.proofs.Loops.{goes_on, ends, is_done}
use Rattle.xt_frames.proofs.answers.row_list.Goals as goal

pub returns-in_err-row : goal.returns-in_err-row
returns-in_err-row c =
    let p = err_from_is_err_and c.from_residual.result c.from_residual.ensures.1 in
    rw (p.1, p.2) (ends row_at c.in_err-row.field-0.0 c.loop.rows c.args.count c.loop.counter c.loop.fields (list_at row_at c.args.count c.args.fields.now) c.loop-test.true c.in_err-row.ensures.0 c.loop.invariant)

pub loop-preserved : goal.loop-preserved
loop-preserved c =
    rw c.in_ok-push.ensures.ok (goes_on row_at c.loop.rows c.args.count c.loop.counter c.loop.fields c.in_ok-row.row c.row.new.self (list_at row_at c.args.count c.args.fields.now) c.loop-test.true c.in_ok-row.ensures c.loop.invariant)

pub returns : goal.returns
returns c = is_done row_at c.loop.rows c.args.count c.loop.counter c.loop.fields (list_at row_at c.args.count c.args.fields.now) c.loop-test.false c.loop.invariant
