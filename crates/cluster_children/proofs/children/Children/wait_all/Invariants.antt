use Rattle.std.proofs.Common.{◌≡◌, length}
use Rattle.cluster_children.specs.Calls.{WaitsFront}
use Rattle.cluster_children.proofs.children.Children.wait_all.Given as goal

abbrev pub invariant-loop : goal.invariant-loop
invariant-loop g l =
    WaitsFront (g.P.Spawner.calls l.fn.spawner) (g.P.Spawner.calls l.spawner) l.fn.self l.self
    × (g.P.Spawner.fault_count l.spawner ≡ g.P.Spawner.fault_count l.fn.spawner)

abbrev pub decreases-loop : goal.decreases-loop
decreases-loop g l = length l.self
