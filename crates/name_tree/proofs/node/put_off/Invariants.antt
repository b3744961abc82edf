use Rattle.std.proofs.Common.{◌+◌, ◌≤◌, length}
use Rattle.name_tree.specs.Trees.{inside, rows_in}
use Rattle.name_tree.proofs.node.put_off.Given as goal

-- no row is counted twice
abbrev pub invariant-loop-kid : goal.invariant-loop-kid
invariant-loop-kid l = rows_in l.pending.items + length (inside l.kid-iterator) + 1 ≤ rows_in l.fn.pending.items + length l.fn.node
