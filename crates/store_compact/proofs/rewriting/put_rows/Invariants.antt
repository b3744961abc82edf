use Rattle.std.proofs.Common.{map, take}
use Rattle.xt_protocol.specs.Folds.{digests_kept}
use Rattle.xt_protocol.specs.Forgetting.{records_of_rows, row_without}
use Rattle.xt_protocol.specs.SeenBodies.{body_by}
use Rattle.object_store.specs.Access.{records_of}
use Rattle.store_compact.specs.Adding.{AreAdded}
use Rattle.store_compact.proofs.rewriting.put_rows.Given as goal

-- the rows so far have put theirs
abbrev pub invariant-loop-row : goal.invariant-loop-row
invariant-loop-row g l =
    let records = records_of {g = g.D.Disk} l.store in
    AreAdded {g = g.D.Disk} l.store l.initial.made.items l.made.items
    (records_of_rows (body_by records) (digests_kept records) (map (row_without l.keep) (take l.row-index l.rows)))
