use Rattle.std.proofs.Common.{◌∙◌, ap, sym, subst}
use Rattle.std.specs.List.{list_any}
use Rattle.xt_protocol.specs.Overdue.{is_due}
use Rattle.xt_protocol.specs.declared.states.Asks.{Asks}
use Rattle.osd_requests.specs.Due.{NoneDue}
use Rattle.osd_requests.proofs.Due.{none_due}
use Rattle.osd_requests.proofs.open.OpenAsks.are_due.Goals as goal

pub returns-else-are_waiting_due-clause-none : goal.returns-else-are_waiting_due-clause-none
returns-else-are_waiting_due-clause-none c = λ is.
    subst (λ (asks : Asks). NoneDue c.args.now asks) c.self.view_is
    (none_due c.args.now (record { waiting = c.self.inside.waiting; issued = c.self.inside.issued })
    (ap (list_any (is_due c.args.now)) (sym c.as_slice.ensures) ∙ sym c.are_waiting_due.ensures ∙ c.if-are_waiting_due.false)
    (sym c.is_issued_due.ensures ∙ is))
