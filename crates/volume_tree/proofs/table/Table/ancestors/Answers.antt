use Rattle.std.proofs.Common.{map}
use Rattle.volume_tree.specs.Tables.{kept_in}
use Rattle.volume_tree.proofs.Tables.{ancestors_found}
use Rattle.volume_tree.proofs.table.Table.ancestors.Goals as goal

pub returns : goal.returns
returns c = ancestors_found c.args.who c.self.inside.top (kept_in c.self.inside.sizes) c.self.inside.next c.args.self.now (map (λ name. name.now) c.args.names.now) c.ancestors.result c.self.view_is c.self.invariant c.ancestors.ensures
