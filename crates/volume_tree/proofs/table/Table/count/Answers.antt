use Rattle.std.proofs.Common.{◌∙◌, map, ap, length}
use Rattle.volume_tree.specs.Tables.{kept_in}
use Rattle.volume_tree.proofs.Tables.{names_found}
use Rattle.volume_tree.proofs.table.Table.count.Goals as goal

pub returns : goal.returns
returns c = c.count.ensures ∙ ap length (names_found c.self.inside.top (kept_in c.self.inside.sizes) c.self.inside.next c.args.self.now (map (λ name. name.now) c.args.names.now) c.self.view_is c.self.invariant)
