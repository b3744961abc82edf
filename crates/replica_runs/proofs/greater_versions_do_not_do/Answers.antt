-- Both heads are computed.
use Rattle.std.proofs.Common.{refl}
use Rattle.replica_runs.proofs.greater_versions_do_not_do.Goals as goal

pub returns : goal.returns
returns c = record { named = refl; greater = refl }
