use Rattle.file_numbers.proofs.Rows.{stand_once}
use Rattle.file_numbers.proofs.Steps.{numbers_always}
use Rattle.file_numbers.proofs.numbers_are_distinct.Goals as goal

pub returns-clause-fit : goal.returns-clause-fit
returns-clause-fit c = numbers_always

pub returns-clause-once : goal.returns-clause-once
returns-clause-once c = stand_once
