use Rattle.std.proofs.Common.{ap, sym, ◌∙◌}
use Rattle.world_disk.specs.Ends.{own_after}
use Rattle.world_disk_hull.proofs.Views.{appended_laid}
use Rattle.world_disk_hull.proofs.stored_node.StoredNode.appended.Goals as goal

pub invariant_of-result : goal.invariant_of-result
invariant_of-result c =
    appended_laid c.self.inside.past.deeds c.self.inside.store.records c.self.inside.store.superblock c.self.inside.put c.self.invariant c.args.rec.now
    c.by-end.result c.past_after-past.result.deeds c.in_ok-store.store.records c.in_ok-store.store.superblock c.put_after-put.result
    (c.in_ok-store.ensures.own ∙ ap (own_after c.self.inside.store.records c.args.rec.now) (sym c.by-end.ensures)) c.in_ok-store.ensures.superblock c.past_after-past.ensures c.put_after-put.ensures
