use Rattle.std.proofs.lemmas.Result.{err_from_is_err_and}
use Rattle.xt_fields.specs.BasicFields.{list_at}
use Rattle.xt_fields.specs.BasicFields.{text_at}
use Rattle.xt_fields.proofs.Loops.{goes_on, ends, is_done}
use Rattle.xt_frames.proofs.answers.name_list.Goals as goal

pub returns-in_err-name : goal.returns-in_err-name
returns-in_err-name c =
    let p = err_from_is_err_and c.from_residual.result c.from_residual.ensures.1 in
    rw (p.1, p.2) (ends (text_at 255) c.in_err-name.field-0.0 c.loop.names c.args.count c.loop.counter c.loop.fields (list_at (text_at 255) c.args.count c.args.fields.now) c.loop-test.true c.in_err-name.ensures.0 c.loop.invariant)

pub loop-preserved : goal.loop-preserved
loop-preserved c =
    rw c.in_ok-push.ensures.ok (goes_on (text_at 255) c.loop.names c.args.count c.loop.counter c.loop.fields c.in_ok-name.name c.text.new.self (list_at (text_at 255) c.args.count c.args.fields.now) c.loop-test.true c.in_ok-name.ensures c.loop.invariant)

pub returns : goal.returns
returns c = is_done (text_at 255) c.loop.names c.args.count c.loop.counter c.loop.fields (list_at (text_at 255) c.args.count c.args.fields.now) c.loop-test.false c.loop.invariant
