use Rattle.std.proofs.Common.{refl}
use Rattle.world_disk_hull.proofs.Views.{loaded_laid}
use Rattle.world_disk_hull.proofs.stored_node.StoredNode.loaded.Goals as goal

pub invariant_of-result : goal.invariant_of-result
invariant_of-result c =
    loaded_laid c.self.inside.past.deeds c.self.inside.store.records c.self.inside.store.superblock c.self.inside.put c.self.invariant c.and.result.deeds
    c.self.inside.store.records c.self.inside.store.superblock c.and.ensures refl refl
