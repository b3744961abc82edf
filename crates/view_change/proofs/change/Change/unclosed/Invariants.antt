use Rattle.std.proofs.Common.{◌≡◌, take}
use Rattle.std.specs.Prelude.{filter, not}
use Rattle.change_rows.specs.Changes.{has_report}
use Rattle.view_change.proofs.change.Change.unclosed.Given as goal

-- the members so far that haven't answered
abbrev pub invariant-loop-node : goal.invariant-loop-node
invariant-loop-node l = l.nodes.items ≡ filter (λ node. not (has_report l.self.reports node.0)) (take l.node-index l.node-items)
