use Rattle.std.proofs.Common.{ap, subst}
use Rattle.list_changes.specs.Laws.{IsInOrder}
use Rattle.list_changes.specs.Recorded.{Recorded}
use Rattle.list_changes.proofs.Sound.{none_in_order, step_in_order, start_in_order}
use Rattle.list_changes.proofs.changes_stay_in_order.Goals as goal

pub returns-clause-none : goal.returns-clause-none
returns-clause-none c = none_in_order

pub returns-clause-step : goal.returns-clause-step
returns-clause-step c = step_in_order

pub returns-clause-start : goal.returns-clause-start
returns-clause-start c key times records s now order known =
    subst (IsInOrder times) (ap (λ (k : Recorded). k.running) known) (start_in_order times s.running order)
