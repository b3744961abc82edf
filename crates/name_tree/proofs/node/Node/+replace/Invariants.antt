use Rattle.std.proofs.Common.{length}
use Rattle.name_tree.proofs.node.Node.+replace.Given as goal

-- each call has a name less
abbrev pub decreases-replace : goal.decreases-replace
decreases-replace l = length l.names.now
