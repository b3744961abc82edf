use Rattle.std.proofs.Common.{◌≡◌}
use Rattle.cluster_children.specs.Calls.{Starts, nodes_of}
use Rattle.cluster_children.proofs.children.Children.start_all.Given as goal

abbrev pub invariant-loop-before : goal.invariant-loop-before
invariant-loop-before g l =
    Starts l.job (g.P.Spawner.calls l.fn.spawner) (g.P.Spawner.calls l.spawner) (nodes_of l.before) l.self
    × (g.P.Spawner.fault_count l.spawner ≡ g.P.Spawner.fault_count l.fn.spawner)
