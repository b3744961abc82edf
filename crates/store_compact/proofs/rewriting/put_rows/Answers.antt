use Rattle.std.proofs.Common.{map, take, subst}
use Rattle.xt_protocol.specs.Folds.{digests_kept}
use Rattle.xt_protocol.specs.Forgetting.{records_of_row, records_of_rows, row_without}
use Rattle.xt_protocol.specs.SeenBodies.{body_by}
use Rattle.object_store.specs.Access.{records_of}
use Rattle.store_compact.specs.Adding.{AreAdded}
use Rattle.store_compact.proofs.Added.{added_then, rows_more}
use Rattle.store_compact.proofs.rewriting.put_rows.Goals as goal

pub loop-row-preserved : goal.loop-row-preserved
loop-row-preserved g c =
    let store = c.args.store.now in
    let body = body_by (records_of {g = g.D.Disk} store) in
    let digests = digests_kept (records_of {g = g.D.Disk} store) in
    let keep = c.args.keep.now in
    let rows = c.args.rows.now in
    let i = c.loop-row.row-index in
    subst (AreAdded {g = g.D.Disk} store c.args.made.now.items c.put_row.new.made.items)
    (rows_more body digests keep rows i c.row-item.result c.loop-row-test.true c.row-item.is)
    (added_then {g = g.D.Disk} store c.args.made.now.items c.loop-row.made.items c.put_row.new.made.items (records_of_rows body digests (map (row_without keep) (take i rows)))
    (records_of_row body digests (row_without keep c.row-item.result)) c.loop-row.invariant c.in_ok-put_row.ensures)
