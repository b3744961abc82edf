use Rattle.std.proofs.Common.{rules, nat_le, not, filter, ap, ◌∙◌}
use Rattle.std.proofs.lemmas.Fn.{filter_same}
use Rattle.xt_protocol.specs.declared.states.WaitingAsk.{WaitingAsk}
use Rattle.xt_protocol.specs.Overdue.{is_due}
use Rattle.osd_requests.proofs.open.drop_due.Goals as goal

pub returns : goal.returns
returns c =
    filter_same _ (λ (w : WaitingAsk). not (nat_le w.deadline c.args.now)) _ (λ x b f' k. search rules) _ _ c.retain.ensures.filtered
    ∙ ap (λ waiting. filter (λ w. not (is_due c.args.now w)) waiting) c.waiting.view_is
