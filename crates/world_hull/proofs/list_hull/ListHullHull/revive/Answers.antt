use Rattle.std.proofs.Common.{ap}
use Rattle.xt_protocol.specs.Folds.{fold_of, logged_of}
use Rattle.world_hull.proofs.Failures.{on_err}
use Rattle.world_hull.proofs.list_hull.ListHullHull.revive.Goals as goal

pub returns-in_err-load-clause-records : goal.returns-in_err-load-clause-records
returns-in_err-load-clause-records c = on_err _ c.from_residual-in_err-load.result (c.in_err-load.ensures.records, c.in_err-load.ensures.failed)

pub returns-clause-found : goal.returns-clause-found
returns-clause-found c = record {
  says = ap fold_of c.in_ok-found.ensures;
  logged = ap logged_of c.in_ok-found.ensures;
  kept = c.in_ok-load.ensures.records;
  past = c.in_ok-load.ensures.past;
}
