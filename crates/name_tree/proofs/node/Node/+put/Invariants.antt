use Rattle.std.proofs.Common.{length}
use Rattle.name_tree.proofs.node.Node.+put.Given as goal

-- each call has a name less
abbrev pub decreases-put : goal.decreases-put
decreases-put l = length l.names.now
