-- The run is computed.
use Rattle.std.proofs.Common.{refl}
use Rattle.world_spec.specs.Examples.{trace_of}
use Rattle.time_line.specs.TimeLine.{location_in}
use Rattle.world_safety.proofs.Lines.{caught_up_fits}
use Rattle.world_safety.proofs.a_replica_is_caught_up.Goals as goal

pub returns-clause-lines : goal.returns-clause-lines
returns-clause-lines c = caught_up_fits

pub returns-clause-trace : goal.returns-clause-trace
unfolding trace_of
returns-clause-trace c = refl

pub returns-clause-file : goal.returns-clause-file
unfolding location_in
returns-clause-file c = refl
