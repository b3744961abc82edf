use Rattle.world_disk_hull.proofs.Views.{loaded_laid}
use Rattle.world_disk_hull.proofs.stored_node.StoredNode.read_again.Goals as goal

pub invariant_of-self-2 : goal.invariant_of-self-2
invariant_of-self-2 c =
    loaded_laid c.self.inside.past.deeds c.self.inside.store.records c.self.inside.store.superblock c.self.inside.put c.self.invariant
    c.and-self-inside.result.deeds c.read_again.new.store.records c.read_again.new.store.superblock c.and-self-inside.ensures c.in_ok-found.ensures.same
    c.in_ok-found.ensures.superblock
