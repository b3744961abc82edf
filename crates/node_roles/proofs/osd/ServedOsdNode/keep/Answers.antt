use Rattle.node_roles.proofs.Stepping.{osd_may}
use Rattle.node_roles.proofs.osd.ServedOsdNode.keep.Goals as goal

pub returns-in-Ok-clause-may : goal.returns-in-Ok-clause-may
returns-in-Ok-clause-may g = λ records runs. osd_may records g.args.self.now.osd.state runs _ g.in-Ok.ensures
