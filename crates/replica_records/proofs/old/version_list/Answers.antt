use Rattle.std.proofs.lemmas.Result.{err_from_is_err_and}
use Rattle.xt_fields.specs.BasicFields.{list_at}
use Rattle.replica_records.specs.OldFields.{object_version_at}
use Rattle.xt_fields.proofs.Loops.{goes_on, ends, is_done}
use Rattle.replica_records.proofs.old.version_list.Goals as goal

pub returns-in_err-entry : goal.returns-in_err-entry
returns-in_err-entry c =
    let p = err_from_is_err_and c.from_residual.result c.from_residual.ensures.1 in
    rw (p.1, p.2) (ends object_version_at c.in_err-entry.field-0.0 c.loop.list c.args.count c.loop.counter c.loop.reader (list_at object_version_at c.args.count c.args.reader.now) c.loop-test.true c.in_err-entry.ensures c.loop.invariant)

pub loop-preserved : goal.loop-preserved
loop-preserved c =
    rw c.in_ok-push.ensures.ok (goes_on object_version_at c.loop.list c.args.count c.loop.counter c.loop.reader c.in_ok-entry.entry c.object_version.new.reader (list_at object_version_at c.args.count c.args.reader.now) c.loop-test.true c.in_ok-entry.ensures c.loop.invariant)

pub returns : goal.returns
returns c = is_done object_version_at c.loop.list c.args.count c.loop.counter c.loop.reader (list_at object_version_at c.args.count c.args.reader.now) c.loop-test.false c.loop.invariant
