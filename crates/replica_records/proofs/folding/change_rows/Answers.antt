use Rattle.replica_records.proofs.FileRows.{set_after}
use Rattle.replica_records.proofs.folding.change_rows.Goals as goal

pub returns-in_ok-change_row-in-Ok-clause-after : goal.returns-in_ok-change_row-in-Ok-clause-after
returns-in_ok-change_row-in-Ok-clause-after c =
    set_after c.args.rows.now c.as_slice.result.now c.rows.inside.items.items c.args.file.now c.in-Ok.place c.as_slice.ensures c.rows.view_is
    c.args.rec.now c.index_mut.result.now c.change_row.new.row c.in-Ok.ensures c.index_mut.ensures.value c.in_ok-change_row-in-Ok.ensures.after
