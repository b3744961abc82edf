use Rattle.world_disk_hull.proofs.Views.{new_laid}
use Rattle.world_disk_hull.proofs.stored_node.StoredNode.new.Goals as goal

pub invariant_of-result : goal.invariant_of-result
invariant_of-result c =
    new_laid c.in_ok-new.field-0.records c.in_ok-new.field-0.superblock c.new-2.result.deeds c.in_ok-new.ensures.none c.in_ok-new.ensures.superblock c.new-2.ensures
