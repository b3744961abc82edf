use Rattle.std.proofs.Common.{sym}
use Rattle.registry_table.proofs.Index.{indexed_removed}
use Rattle.registry_table.proofs.registry.Registry.remove.Goals as goal

pub invariant_of-self : goal.invariant_of-self
invariant_of-self c =
    indexed_removed c.self.inside.rows c.remove.new.self c.self.inside.kinds c.args.node.0 c.self.invariant c.in-Some.row c.remove-in-Some.new.self (sym c.in-Some.ensures.value)
    c.remove.ensures.updates c.remove.ensures.ordered c.remove-in-Some.ensures.updates
