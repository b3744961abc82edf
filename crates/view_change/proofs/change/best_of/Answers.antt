use Rattle.view_change.proofs.Chosen.{best_at}
use Rattle.view_change.proofs.change.best_of.Goals as goal

pub returns : goal.returns
returns c = best_at c.args.reports.now c.choose.result c.index-reports-choose.result c.requires c.choose.ensures c.index-reports-choose.is
