use Rattle.lease_safety.proofs.Histories
use Rattle.lease_safety.proofs.earlier_leases_are_over.Goals as goal

pub returns-clause-over : goal.returns-clause-over
returns-clause-over c setting later moves node lease history =
    Histories.others_over setting later moves node lease history (Histories.history_before setting later moves history)

pub returns-clause-unheld : goal.returns-clause-unheld
returns-clause-unheld c = Histories.over_is_not_held
