use Rattle.std.proofs.Common.{◌+◌, length}
use Rattle.name_tree.specs.Trees.{rows_in}
use Rattle.name_tree.proofs.node.Node.take_apart.Given as goal

abbrev pub invariant-loop-next : goal.invariant-loop-next
invariant-loop-next l = Unit {0}

-- each round lets a row go
abbrev pub decreases-loop-next : goal.decreases-loop-next
decreases-loop-next l = rows_in l.pending.items + length l.node
