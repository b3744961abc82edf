-- Answer by answer.
use Rattle.file_runs.proofs.Standing.{stand}
use Rattle.file_runs.proofs.fitting_answers_show_the_file.Goals as goal

pub returns : goal.returns
returns c = stand
