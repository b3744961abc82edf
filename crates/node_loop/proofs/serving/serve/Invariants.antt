use Rattle.std.proofs.Common.{◌≡◌, ◌≤◌, ◌<◌, ◌^◌}
use Rattle.std.specs.List.{All}
use Rattle.xt_messages.specs.Limits.{FitsMessage}
use Rattle.object_store.specs.Access.{records_of, disk_of}
use Rattle.object_store.specs.Waits.{CanBePut, recs_of}
use Rattle.node_loop.specs.Batched.{held_of, kept_of}
use Rattle.node_loop.specs.Settling.{served_of}
use Rattle.node_loop.proofs.Coming.{HasCome}
use Rattle.node_loop.proofs.serving.serve.Given as goal

abbrev pub invariant-loop : goal.invariant-loop
invariant-loop g l =
    (g.N.Node.role l.site.node ≡ g.N.Node.role l.fn.site.node)
    × (l.site.sender.boot ≡ l.fn.site.sender.boot)
    × (l.site.sender.node ≡ l.fn.site.sender.node)
    × (l.site.clock < 2 ^ 62)
    × All FitsMessage l.site.own
    × g.N.Node.runs_on l.site.node (kept_of l.store l.batch)
    × (l.spent ≤ l.bounds.turns)
    × (g.L.Link.fault_count l.link ≡ g.L.Link.fault_count l.fn.link)
    × (g.C.Clock.fault_count l.clock ≡ g.C.Clock.fault_count l.fn.clock)
    × (g.D.Disk.fault_count (disk_of l.store) ≡ g.D.Disk.fault_count (disk_of l.fn.store))
    × CanBePut l.store (recs_of l.batch.records)
    × HasCome g.D.Disk.is_told (g.N.Node.role l.fn.site.node) l.fn.site.sender.boot l.bounds.period (served_of g.N.Node.state l.fn.site l.fn.store)
    (g.L.Link.given l.fn.link) (g.L.Link.sent l.fn.link) (g.L.Link.loss_count l.fn.link) (g.C.Clock.readings l.fn.clock)
    g.D.Disk.moment g.D.Disk.left_since (disk_of l.fn.store)
    (held_of g.N.Node.state l.site l.store l.batch) (records_of l.store) (disk_of l.store) l.spent
    (g.L.Link.given l.link) (g.L.Link.sent l.link) (g.L.Link.loss_count l.link) (g.C.Clock.readings l.clock)
