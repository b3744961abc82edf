use Rattle.std.proofs.Common.{length}
use Rattle.name_tree.proofs.node.Node.+take.Given as goal

-- each call has a name less
abbrev pub decreases-take : goal.decreases-take
decreases-take l = length l.names.now
