use Rattle.object_store.specs.Access.{records_of}
use Rattle.store_compact.proofs.Added.{digests_there, whole_added}
use Rattle.store_compact.proofs.rewriting.rewritten.Goals as goal

pub returns-clause-are : goal.returns-clause-are
returns-clause-are g c =
    (whole_added {g = g.D.Disk} c.args.store.now c.args.keep.now c.new-made.result.items c.put_plain.new.made.items c.put_logged.new.made.items c.put_rows.new.made.items
    c.records-records.result.now c.in_ok-folded.folded c.as_slice.result.now c.of-keep.result c.new-made.ensures.items c.in_ok-put_plain.ensures c.in_ok-put_logged.ensures
    c.records-records.ensures c.in_ok-folded.ensures c.as_slice.ensures c.of-keep.ensures c.in_ok-put_rows.ensures).are

pub returns-clause-of : goal.returns-clause-of
returns-clause-of g c =
    (whole_added {g = g.D.Disk} c.args.store.now c.args.keep.now c.new-made.result.items c.put_plain.new.made.items c.put_logged.new.made.items c.put_rows.new.made.items
    c.records-records.result.now c.in_ok-folded.folded c.as_slice.result.now c.of-keep.result c.new-made.ensures.items c.in_ok-put_plain.ensures c.in_ok-put_logged.ensures
    c.records-records.ensures c.in_ok-folded.ensures c.as_slice.ensures c.of-keep.ensures c.in_ok-put_rows.ensures).of

pub put_rows-requires : goal.put_rows-requires
put_rows-requires g c =
    digests_there c.in_ok-digests.digests c.records-records.result.now (records_of {g = g.D.Disk} c.args.store.now) c.records-records.ensures c.in_ok-digests.ensures
