use Rattle.std.proofs.Common.{refl}
use Rattle.list_rows.specs.Examples.{after_all}
use Rattle.list_rows.proofs.a_file_moves.Goals as goal

pub returns-clause-marks : goal.returns-clause-marks
unfolding after_all
returns-clause-marks c = refl

pub returns-clause-reports : goal.returns-clause-reports
unfolding after_all
returns-clause-reports c = refl

pub returns-clause-answers : goal.returns-clause-answers
unfolding after_all
returns-clause-answers c = refl

pub returns-clause-records : goal.returns-clause-records
unfolding after_all
returns-clause-records c = refl
