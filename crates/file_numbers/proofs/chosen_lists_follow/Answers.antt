use Rattle.file_numbers.proofs.Steps.{none_fits, boot_fits, step_fits}
use Rattle.file_numbers.proofs.chosen_lists_follow.Goals as goal

pub returns-clause-none : goal.returns-clause-none
returns-clause-none c = none_fits

pub returns-clause-start : goal.returns-clause-start
returns-clause-start c = boot_fits

pub returns-clause-step : goal.returns-clause-step
returns-clause-step c = step_fits
