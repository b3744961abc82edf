use Rattle.std.proofs.Common.{◌≡◌, ◌++◌, take}
use Rattle.client_plans.specs.Plans.{spaced_nodes}
use Rattle.client_jobs.proofs.showing.push_nodes.Given as goal

-- the nodes so far are appended
abbrev pub invariant-loop-node : goal.invariant-loop-node
invariant-loop-node l = l.out.items ≡ l.fn.out.items ++ spaced_nodes (take l.node-index l.nodes)
