use Rattle.std.proofs.Common.{◌≡◌, map}
use Rattle.world_spec.specs.NodeSteps.{pending}
use Rattle.world_tables.proofs.sent.all_pending.Given as goal

abbrev pub invariant-loop-message : goal.invariant-loop-message
invariant-loop-message l = l.made.items ≡ map pending l.yielded
