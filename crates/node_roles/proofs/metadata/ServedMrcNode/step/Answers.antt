use Rattle.std.proofs.Common.{ap, sym, subst}
use Rattle.world_spec.specs.NodeSteps.{one_more}
use Rattle.server_rows.specs.Metadata.{MrcNode}
use Rattle.server_limits.specs.Keeping.{MrcRunsOn}
use Rattle.node_roles.proofs.Stepping.{mrc_fits, mrc_runs}
use Rattle.node_roles.proofs.metadata.ServedMrcNode.step.Goals as goal

pub returns-in-Ok-clause-fits : goal.returns-in-Ok-clause-fits
returns-in-Ok-clause-fits g c = λ records agrees.
    mrc_fits _ records _ c.args.now c.args.ev.now (c.requires.runs records agrees) c.requires.clock c.requires.fits c.in-Ok.turned c.in-Ok.ensures.turned

pub returns-in-Ok-clause-runs : goal.returns-in-Ok-clause-runs
returns-in-Ok-clause-runs g c = λ records agrees.
    let after = c.in-Ok.ensures.state in
    subst (λ key. MrcRunsOn key (one_more records c.in-Ok.turned.rec) c.step.new.self.state)
    (sym (ap (λ (m : MrcNode). m.secret) after))
    (mrc_runs _ records _ c.args.now c.args.ev.now (c.requires.runs records agrees) c.requires.clock c.requires.fits c.in-Ok.turned _ c.in-Ok.ensures.turned
    (ap (λ (m : MrcNode). m.state) after))
