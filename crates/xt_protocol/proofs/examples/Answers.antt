use Rattle.std.proofs.Common.{refl}
use Rattle.xt_protocol.specs.Examples.{after_deeds}
use Rattle.xt_protocol.specs.Folds.{body_kept, fold_of, row_in, with_row}
use Rattle.xt_protocol.specs.PlainRows.{plain_step}
use Rattle.xt_protocol.specs.ReplicaRows.{gathered, headed}
use Rattle.xt_protocol.specs.StripedRows.{handle_striped, striped_refusal}
use Rattle.xt_protocol.specs.Writes.{standing}
use Rattle.xt_protocol.proofs.examples.Goals as goal

pub returns-clause-one : goal.returns-clause-one
unfolding after_deeds
returns-clause-one c = refl

pub returns-clause-behind : goal.returns-clause-behind
unfolding after_deeds
returns-clause-behind c = refl

pub returns-clause-edge : goal.returns-clause-edge
unfolding after_deeds
returns-clause-edge c = refl

pub returns-clause-again : goal.returns-clause-again
unfolding after_deeds
returns-clause-again c = refl

pub returns-clause-unheld : goal.returns-clause-unheld
unfolding after_deeds
returns-clause-unheld c = refl

pub returns-clause-lost : goal.returns-clause-lost
unfolding after_deeds
returns-clause-lost c = refl

pub returns-clause-there : goal.returns-clause-there
unfolding after_deeds
returns-clause-there c = refl

pub returns-clause-silent : goal.returns-clause-silent
unfolding after_deeds
returns-clause-silent c = refl

pub returns-clause-outran : goal.returns-clause-outran
unfolding after_deeds
returns-clause-outran c = refl

pub returns-clause-late : goal.returns-clause-late
unfolding after_deeds
returns-clause-late c = refl

pub returns-clause-took : goal.returns-clause-took
unfolding headed
returns-clause-took c = refl

pub returns-clause-misses : goal.returns-clause-misses
unfolding headed
returns-clause-misses c = refl

pub returns-clause-promised : goal.returns-clause-promised
unfolding gathered
returns-clause-promised c = refl

pub returns-clause-stands : goal.returns-clause-stands
unfolding gathered
returns-clause-stands c = refl

pub returns-clause-issued : goal.returns-clause-issued
unfolding after_deeds
returns-clause-issued c = refl

pub returns-clause-untested : goal.returns-clause-untested
unfolding after_deeds
returns-clause-untested c = refl

pub returns-clause-tested : goal.returns-clause-tested
unfolding after_deeds
returns-clause-tested c = refl

pub returns-clause-striped : goal.returns-clause-striped
unfolding handle_striped striped_refusal plain_step standing body_kept fold_of row_in with_row
returns-clause-striped c = refl

pub returns-clause-shown : goal.returns-clause-shown
unfolding handle_striped striped_refusal plain_step standing body_kept fold_of row_in with_row
returns-clause-shown c = refl

pub returns-clause-other : goal.returns-clause-other
unfolding handle_striped striped_refusal plain_step standing body_kept fold_of row_in with_row
returns-clause-other c = refl
