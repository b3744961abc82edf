use Rattle.std.proofs.Common.{ap}
use Rattle.node_roles.specs.Roles.{osd_steps}
use Rattle.node_roles.proofs.Stepping.{osd_fits, osd_runs, osd_same}
use Rattle.node_roles.proofs.osd.ServedOsdNode.step.Goals as goal

pub returns-in-Ok-clause-step : goal.returns-in-Ok-clause-step
returns-in-Ok-clause-step g c = λ records agrees. ap osd_steps (c.in-Ok.ensures.step records agrees)

pub returns-in-Ok-clause-fits : goal.returns-in-Ok-clause-fits
returns-in-Ok-clause-fits g c = λ records agrees.
    osd_fits _ records _ c.args.now c.args.ev.now c.in-Ok.turned _ (c.requires.runs records (c.in-Ok.ensures.reads.later records agrees))
    c.requires.clock c.requires.fits (c.in-Ok.ensures.step records agrees)

pub returns-in-Ok-clause-runs : goal.returns-in-Ok-clause-runs
returns-in-Ok-clause-runs g c = λ records agrees.
    osd_runs _ records _ c.args.now c.args.ev.now c.in-Ok.turned _ (c.requires.runs records (c.in-Ok.ensures.reads.later records agrees))
    c.requires.clock c.requires.fits (c.in-Ok.ensures.step records agrees)

pub returns-in-Ok-clause-same : goal.returns-in-Ok-clause-same
returns-in-Ok-clause-same g c =
    let some = g.B.Bodies.some c.step.new.bodies in
    osd_same _ some.0 _ c.args.now c.args.ev.now c.in-Ok.turned _ _ (c.in-Ok.ensures.step some.0 some.1) c.in-Ok.ensures.key
