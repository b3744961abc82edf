use Rattle.std.proofs.Common.{refl}
use Rattle.change_rows.specs.Changes.{new_change}
use Rattle.change_rows.proofs.Waiting.{early, late, timed_first, closed_timed, moment_kept}
use Rattle.change_rows.proofs.choices_wait.Goals as goal

pub returns-clause-early : goal.returns-clause-early
returns-clause-early c change now none = early change now none

pub returns-clause-late : goal.returns-clause-late
returns-clause-late c change now h = late change now h

pub returns-clause-begun : goal.returns-clause-begun
returns-clause-begun c times file old next = timed_first (new_change times file old next) refl refl

pub returns-clause-timed : goal.returns-clause-timed
returns-clause-timed c change now from version head timed = closed_timed change now from head timed version

pub returns-clause-once : goal.returns-clause-once
returns-clause-once c change now from version head moment timed since = moment_kept change now from head moment timed since version
