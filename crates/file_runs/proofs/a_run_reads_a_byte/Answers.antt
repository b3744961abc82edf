-- The sample was run in proofs/Sample.antt.
use Rattle.file_runs.proofs.Sample.{sample_runs}
use Rattle.file_runs.proofs.a_run_reads_a_byte.Goals as goal

pub returns : goal.returns
returns c = sample_runs
