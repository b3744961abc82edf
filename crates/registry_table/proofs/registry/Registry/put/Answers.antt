use Rattle.std.proofs.Common.{◌∙◌, refl, sym, ne_eqb, eq-eqb}
use Rattle.registry_table.proofs.Index.{indexed_new, indexed_same, indexed_moved, indexed_again}
use Rattle.registry_table.proofs.registry.Registry.put.Goals as goal

pub invariant_of-self-then-old-kind : goal.invariant_of-self-then-old-kind
invariant_of-self-then-old-kind c =
    let row = c.args.row in
    let old = c.in-Ok-Some.old in
    let found = c.in-Ok-Some.ensures in
    indexed_moved c.self.inside.rows c.insert-2.new.self c.self.inside.kinds c.args.node.0 c.self.invariant c.insert.new.self row.kind c.in_ok-insert.ensures.updates row old c.remove.new.self refl
    (sym found.old ∙ c.in-Ok-Some.field-0-is) (ne_eqb old.kind row.kind c.if-old-kind.true) found.updates found.ordered c.remove.ensures.updates

pub invariant_of-self-else-old-kind : goal.invariant_of-self-else-old-kind
invariant_of-self-else-old-kind c =
    let row = c.args.row in
    let old = c.in-Ok-Some.old in
    let found = c.in-Ok-Some.ensures in
    indexed_same c.self.inside.rows c.insert-2.new.self c.self.inside.kinds c.args.node.0 c.self.invariant c.insert.new.self row.kind c.in_ok-insert.ensures.updates row old refl
    (sym found.old ∙ c.in-Ok-Some.field-0-is) (eq-eqb old.kind row.kind c.if-old-kind.false) found.updates found.ordered

pub invariant_of-self-in-Ok-None : goal.invariant_of-self-in-Ok-None
invariant_of-self-in-Ok-None c =
    let row = c.args.row in
    let found = c.in-Ok-None.ensures in
    indexed_new c.self.inside.rows c.insert-2.new.self c.self.inside.kinds c.args.node.0 c.self.invariant c.insert.new.self row.kind c.in_ok-insert.ensures.updates row refl
    (sym found.old ∙ c.in-Ok-None.field-0-is) found.updates found.ordered

pub invariant_of-self-in-Err : goal.invariant_of-self-in-Err
invariant_of-self-in-Err c =
    let left = c.in-Err.ensures in
    indexed_again c.self.inside.rows c.insert-2.new.self c.self.inside.kinds c.args.node.0 c.self.invariant c.insert.new.self c.args.row.kind c.in_ok-insert.ensures.updates c.remove-in-Err.new.self
    left.absent left.err left.ordered c.remove-in-Err.ensures.updates
