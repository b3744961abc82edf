use Rattle.std.proofs.Common.{◌≡◌, map}
use Rattle.std.specs.List.{All}
use Rattle.xt_messages.specs.Limits.{FitsMessage}
use Rattle.cluster_children.specs.Calls.{osds_to}
use Rattle.cluster_job.specs.Parting.{stop_from}
use Rattle.cluster_job.proofs.parting.farewells.Given as goal

abbrev pub invariant-loop-before : goal.invariant-loop-before
invariant-loop-before l = (l.msgs ≡ map (stop_from l.client l.tag) (osds_to l.before)) × All FitsMessage l.msgs
