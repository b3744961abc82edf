use Rattle.std.proofs.Common.{Option, ◌∙◌, ap, unwrap_or}
use Rattle.world_disk.specs.Room.{is_due, laid_by}
use Rattle.world_disk_hull.specs.Views.{StoredView, none_stored}
use Rattle.world_disk_hull.proofs.Views.{none_due}
use Rattle.world_disk_hull.proofs.disk_hull.DiskHullHull.may_compact.Goals as goal

pub returns-in-None-clause-due : goal.returns-in-None-clause-due
returns-in-None-clause-due c =
    none_due ∙ ap (λ (found : Option StoredView). is_due (laid_by (unwrap_or found none_stored).past)) c.in-None.ensures.value
