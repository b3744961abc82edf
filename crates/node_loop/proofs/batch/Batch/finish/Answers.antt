use Rattle.object_store.specs.Access.{records_of, disk_of}
use Rattle.node_loop.specs.Batched.{posts_of, puts_of}
use Rattle.node_loop.proofs.Finishing.{all_finished, none_finished}
use Rattle.node_loop.proofs.batch.Batch.finish.Goals as goal

pub returns-in-Ok-clause-finished : goal.returns-in-Ok-clause-finished
returns-in-Ok-clause-finished g c =
    let D = g.D.Disk in
    let e = c.in-Ok.ensures in
    let batch = c.args.self.now in
    all_finished D.is_told D.kept D.moment D.left_since (disk_of c.args.store) c.end_with.result.disk (records_of c.args.store) (puts_of D.is_told batch) (posts_of batch)
    _ _ _ _ _ c.args.why c.end_with.result.status (disk_of c.in-Ok.store) (records_of c.in-Ok.store) e.records e.changes c.end_with.ensures.changes c.end_with.ensures.stays e.sends
    c.end_with.ensures.status

pub returns-in-Err-clause-finished : goal.returns-in-Err-clause-finished
returns-in-Err-clause-finished g c =
    let D = g.D.Disk in
    let e = c.in-Err.ensures in
    let batch = c.args.self.now in
    none_finished D.is_told D.kept D.moment D.left_since (disk_of c.args.store) c.in-Err.ended.disk (records_of c.args.store) (puts_of D.is_told batch) (posts_of batch)
    _ _ _ _ _ c.args.why c.in-Err.ended.status e.some e.quiet e.ends
