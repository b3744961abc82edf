use Rattle.std.proofs.Common.{map}
use Rattle.volume_tree.specs.Tables.{kept_in}
use Rattle.volume_tree.proofs.Tables.{some_found, entry_found, nothing_found}
use Rattle.volume_tree.proofs.table.Table.find.Goals as goal

pub returns-in-Some-clause-entry : goal.returns-in-Some-clause-entry
returns-in-Some-clause-entry c = some_found c.self.inside.top (kept_in c.self.inside.sizes) c.self.inside.next c.args.self.now (map (λ name. name.now) c.args.names.now) c.in-Some.entry c.sized.result c.self.view_is c.self.invariant c.in-Some.ensures.entry c.sized.ensures

pub returns-in-None-clause-entry : goal.returns-in-None-clause-entry
returns-in-None-clause-entry c = entry_found c.self.inside.top (kept_in c.self.inside.sizes) c.self.inside.next c.args.self.now (map (λ name. name.now) c.args.names.now) _ c.self.view_is c.self.invariant c.in-None.ensures.entry

pub returns-in-None-clause-none : goal.returns-in-None-clause-none
returns-in-None-clause-none c = nothing_found c.self.inside.top (kept_in c.self.inside.sizes) c.self.inside.next c.args.self.now (map (λ name. name.now) c.args.names.now) c.self.view_is c.self.invariant c.in-None.ensures.none
