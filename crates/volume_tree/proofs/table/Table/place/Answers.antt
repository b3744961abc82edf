use Rattle.std.proofs.Common.{map}
use Rattle.volume_rows.specs.Paths.{parent_of}
use Rattle.volume_tree.specs.Tables.{kept_in}
use Rattle.volume_tree.proofs.Tables.{some_found, entry_found}
use Rattle.volume_tree.proofs.table.Table.place.Goals as goal

pub returns-in-Some : goal.returns-in-Some
returns-in-Some c = some_found c.self.inside.top (kept_in c.self.inside.sizes) c.self.inside.next c.args.self.now (parent_of (map (λ name. name.now) c.args.names.now)) c.in-Some.entry c.sized.result c.self.view_is c.self.invariant c.in-Some.ensures c.sized.ensures

pub returns-in-None : goal.returns-in-None
returns-in-None c = entry_found c.self.inside.top (kept_in c.self.inside.sizes) c.self.inside.next c.args.self.now (parent_of (map (λ name. name.now) c.args.names.now)) _ c.self.view_is c.self.invariant c.in-None.ensures
