use Rattle.std.proofs.Common.{ap, subst, unwrap_or}
use Rattle.std.proofs.lemmas.Result.{IfOk-weaker}
use Rattle.disk_model.specs.Changes.{memory_kept}
use Rattle.disk_model.specs.Disk.{IsImage}
use Rattle.world_disk.specs.Disks.{AreOn}
use Rattle.world_disk_hull.specs.Views.{StoredView, none_stored}
use Rattle.world_disk.proofs.StoredRecords.{none_left, none_stand}
use Rattle.world_disk_hull.proofs.disk_hull.DiskHull.image.Goals as goal

pub returns-in-None-clause-left : goal.returns-in-None-clause-left
returns-in-None-clause-left c =
    subst (λ (node : StoredView). IsImage (memory_kept node.disk) c.new.result) (ap (λ found. unwrap_or found none_stored) c.in-None.ensures.value)
    (rw c.new.ensures none_left)

pub returns-in-None-clause-stand : goal.returns-in-None-clause-stand
returns-in-None-clause-stand c =
    subst (λ (node : StoredView). ∥ AreOn c.new.result node.records ∥₁) (ap (λ found. unwrap_or found none_stored) c.in-None.ensures.value)
    (rw c.new.ensures none_stand)

pub returns-in-Some-clause-left : goal.returns-in-Some-clause-left
returns-in-Some-clause-left c =
    IfOk-weaker _ _ _
    (λ bytes left. subst (λ (node : StoredView). IsImage (memory_kept node.disk) bytes) (ap (λ found. unwrap_or found none_stored) c.in-Some.ensures.value) left)
    c.bytes.ensures.left

pub returns-in-Some-clause-stand : goal.returns-in-Some-clause-stand
returns-in-Some-clause-stand c =
    IfOk-weaker _ _ _
    (λ bytes on. subst (λ (node : StoredView). ∥ AreOn bytes node.records ∥₁) (ap (λ found. unwrap_or found none_stored) c.in-Some.ensures.value) on)
    c.bytes.ensures.same
