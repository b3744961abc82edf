use Rattle.std.proofs.Common.{ap}
use Rattle.server_rows.specs.Directory.{DirNode}
use Rattle.node_roles.proofs.Stepping.{dir_fits, dir_runs}
use Rattle.node_roles.proofs.directory.ServedDirNode.step.Goals as goal

pub returns-in-Ok-clause-fits : goal.returns-in-Ok-clause-fits
returns-in-Ok-clause-fits g c = λ records agrees. dir_fits records _ _ (c.requires.runs records agrees) c.requires.fits c.in-Ok.turned c.in-Ok.ensures.turned

pub returns-in-Ok-clause-runs : goal.returns-in-Ok-clause-runs
returns-in-Ok-clause-runs g c = λ records agrees.
    dir_runs records _ _ (c.requires.runs records agrees) c.requires.fits c.in-Ok.turned _ c.in-Ok.ensures.turned (ap (λ (d : DirNode). d.state) c.in-Ok.ensures.state)
