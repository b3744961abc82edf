use Rattle.std.proofs.Common.{ap}
use Rattle.osd_core.specs.Views.{OsdView}
use Rattle.node_roles.proofs.Stepping.{osd_runs_without, osd_without_same}
use Rattle.node_roles.proofs.osd.ServedOsdNode.forget.Goals as goal

pub returns-clause-state : goal.returns-clause-state
returns-clause-state g = λ needs. ap (λ (v : OsdView). v.state) g.forget.ensures

pub returns-clause-same : goal.returns-clause-same
returns-clause-same g =
    osd_without_same _ _ g.args.keep.now _ _ (ap (λ (v : OsdView). v.state) g.forget.ensures) (ap (λ (v : OsdView). v.key) g.forget.ensures)

pub returns-clause-runs : goal.returns-clause-runs
returns-clause-runs g =
    λ needs records runs. osd_runs_without records g.args.self.now.osd.state runs g.args.keep.now _ needs (ap (λ (v : OsdView). v.state) g.forget.ensures)
