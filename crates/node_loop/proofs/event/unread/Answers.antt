use Rattle.object_store.specs.Access.{records_of, disk_of}
use Rattle.node_loop.proofs.Counting.{counted_keeps}
use Rattle.node_loop.proofs.event.unread.Goals as goal

pub returns-clause-changes : goal.returns-clause-changes
returns-clause-changes g c =
    let D = g.D.Disk in
    let store = c.args.store in
    counted_keeps D.is_told D.kept D.moment D.left_since (disk_of store) c.close-disk.result c.count_fault-count.new.self (records_of store) c.close-disk.ensures store.keeps
    (λ disk image told left. g.met.D.Disk.only_now disk image told left) c.count_fault-count.ensures.same c.count_fault-count.ensures.time
