use Rattle.std.proofs.Common.{ap}
use Rattle.world_hull.proofs.Failures.{on_err}
use Rattle.world_hull.proofs.list_hull.ListHullHull.append.Goals as goal

pub returns-in_err-keep-clause-others : goal.returns-in_err-keep-clause-others
returns-in_err-keep-clause-others c = on_err _ c.from_residual-in_err-keep.result (λ n differs. (ap (λ records. records n) c.in_err-keep.ensures.failed.0, ap (λ past. past n) c.in_err-keep.ensures.failed.1))
