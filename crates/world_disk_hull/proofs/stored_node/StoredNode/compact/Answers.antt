use Rattle.world_disk_hull.proofs.Views.{rewritten_laid}
use Rattle.world_disk_hull.proofs.stored_node.StoredNode.compact.Goals as goal

pub invariant_of-result : goal.invariant_of-result
invariant_of-result c =
    rewritten_laid c.self.inside.past.deeds c.self.inside.put c.self.inside.store c.args.keep.now c.self.invariant c.in_ok-store.rewrote c.in_ok-store.store
    c.rewritten_past-past.result.deeds c.in_ok-store.ensures c.rewritten_past-past.ensures
