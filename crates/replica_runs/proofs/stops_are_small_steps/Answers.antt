-- The list of a step, and then the loss of the lease.
use Rattle.replica_runs.proofs.Stopping.{stops, lost, others_same}
use Rattle.replica_runs.proofs.stops_are_small_steps.Goals as goal

pub returns-clause-stops : goal.returns-clause-stops
returns-clause-stops c stripe ops members n a tenure turned fits r = (stops stripe ops members n a tenure turned r, lost stripe ops members n a fits)

pub returns-clause-others : goal.returns-clause-others
returns-clause-others c stripe ops members n l steps may m other = others_same stripe ops members n l steps may m other
