use Rattle.cluster_children.specs.Calls.{Stops}
use Rattle.cluster_children.proofs.children.Children.stop_all.Given as goal

abbrev pub invariant-loop-child : goal.invariant-loop-child
invariant-loop-child g l =
    Stops (g.P.Spawner.calls l.fn.spawner) (g.P.Spawner.calls l.spawner) (g.P.Spawner.fault_count l.fn.spawner) (g.P.Spawner.fault_count l.spawner) l.yielded
