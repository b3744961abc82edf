-- Row by row, in proofs/Files.antt and the modules that it is built on.
use Rattle.replica_runs.proofs.Files.{files_show}
use Rattle.replica_runs.proofs.steps_of_a_file_are_small_steps.Goals as goal

pub returns : goal.returns
returns c stripe ops members site s holder sent entries distinct orderly fits = files_show stripe ops members site s holder sent entries distinct orderly fits
