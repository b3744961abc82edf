-- The sample was run in proofs/HeadSample.antt.
use Rattle.replica_runs.proofs.HeadSample.{sample_runs}
use Rattle.replica_runs.proofs.a_run_reads_a_byte.Goals as goal

pub returns : goal.returns
returns c = sample_runs
