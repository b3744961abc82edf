-- What the world of heads after the run has reported.
use Rattle.file_runs.proofs.Runs.{on_one_order}
use Rattle.file_runs.proofs.runs_are_on_one_order.Goals as goal

pub returns : goal.returns
returns c stripe ops members start w events some distinct begins at may = on_one_order stripe some ops members distinct start w events begins at may
