use Rattle.std.proofs.Common.{sym, ◌∙◌, ap, unwrap_or}
use Rattle.xt_protocol.specs.Folds.{body_kept}
use Rattle.xt_protocol.proofs.Folds.{body_kept-nothing}
use Rattle.world_disk_hull.specs.Views.{none_stored}
use Rattle.world_disk_hull.proofs.disk_hull.DiskHullHull.body.Goals as goal

pub returns-in-None : goal.returns-in-None
returns-in-None c =
    ap (λ log. body_kept (unwrap_or log none_stored).records c.args.file.now c.args.object c.args.version.now) (sym c.in-None.ensures.value)
    ∙ body_kept-nothing c.args.file.now c.args.object c.args.version.now
