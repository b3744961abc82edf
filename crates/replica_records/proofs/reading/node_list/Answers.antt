use Rattle.std.proofs.Common.{◌∙◌, take, arith}
use Rattle.std.proofs.lemmas.List.{length-set}
use Rattle.std.proofs.lemmas.Result.{err_from_is_err_and}
use Rattle.xt_fields.specs.BasicFields.{list_at}
use Rattle.xt_wire.specs.IdFields.{node_at}
use Rattle.xt_fields.proofs.Loops.{as_fails, fills, ends, are_filled}
use Rattle.replica_records.proofs.reading.node_list.Goals as goal

pub returns-in_err-node-clause-err : goal.returns-in_err-node-clause-err
returns-in_err-node-clause-err c =
    let p = err_from_is_err_and c.from_residual.result c.from_residual.ensures.1 in
    rw (p.1, p.2) (ends node_at c.in_err-node.field-0.0 (take c.loop-place.place c.loop-place.nodes) c.args.count c.loop-place.place c.loop-place.reader (list_at node_at c.args.count c.args.reader.now) c.loop-place-test.true (as_fails c.in_err-node.field-0.0 (node_at c.loop-place.reader) c.in_err-node.ensures.0) c.loop-place.invariant.1)

pub loop-place-preserved : goal.loop-place-preserved
loop-place-preserved c =
    rw c.from.ensures (
      length-set c.loop-place.nodes c.loop-place.place c.in_ok-node.node ∙ c.loop-place.invariant.0,
      fills node_at c.loop-place.nodes c.args.count c.loop-place.place c.loop-place.reader c.in_ok-node.node c.node.new.self (list_at node_at c.args.count c.args.reader.now) c.loop-place-test.true (omega arith) c.in_ok-node.ensures c.loop-place.invariant.1,
    )

pub returns-clause-ok : goal.returns-clause-ok
returns-clause-ok c = are_filled node_at c.loop-place.nodes c.args.count c.loop-place.place c.loop-place.reader (list_at node_at c.args.count c.args.reader.now) c.loop-place-test.false c.loop-place.auto.place-end c.loop-place.invariant.1
