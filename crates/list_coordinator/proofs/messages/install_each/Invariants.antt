use Rattle.std.proofs.Common.{◌≡◌, ◌++◌, map, take}
use Rattle.change_rows.specs.Coordinating.{install_to}
use Rattle.list_coordinator.proofs.messages.install_each.Given as goal

-- those so far are to install it
abbrev pub invariant-loop-node : goal.invariant-loop-node
invariant-loop-node l = l.outs ≡ l.initial.outs ++ map (install_to l.choice) (take l.node-index l.nodes)
