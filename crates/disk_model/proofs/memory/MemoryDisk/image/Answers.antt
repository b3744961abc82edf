use Rattle.std.proofs.Common.{subst, sym, ◌∙◌}
use Rattle.disk_model.specs.Disk.{IsImage}
use Rattle.disk_model.specs.Changes.{memory_kept}
use Rattle.disk_model.specs.Laws.{memory_read_is_image}
use Rattle.disk_model.proofs.memory.MemoryDisk.image.Goals as goal

pub returns-in_ok-image-in-None-clause-image : goal.returns-in_ok-image-in-None-clause-image
returns-in_ok-image-in-None-clause-image c =
    subst (IsImage (memory_kept c.args.self.now)) (sym (c.in_ok-image-in-None.ensures ∙ c.in_ok-bytes-in-None.ensures)) (memory_read_is_image c.args.self.now)
