use Rattle.std.proofs.Common.{◌≡◌, ◌++◌, take}
use Rattle.server_text.specs.Words.{behind, node_words}
use Rattle.server_text.proofs.spelling.push_nodes.Given as goal

-- the nodes so far are spelled
abbrev pub invariant-loop-node : goal.invariant-loop-node
invariant-loop-node l = l.out.items ≡ l.fn.out.items ++ behind (node_words (take l.node-index l.nodes))
