use Rattle.orphan_sweep.proofs.Fitting.{files_fit}
use Rattle.orphan_sweep.proofs.laws.judged_files_fit.Goals as goal

pub returns : goal.returns
returns c = files_fit
