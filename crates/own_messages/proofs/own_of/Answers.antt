use Rattle.std.proofs.Common.{rules, ◌==◌, ap, ◌∙◌}
use Rattle.std.proofs.lemmas.Fn.{filter_same}
use Rattle.xt_messages.specs.declared.message.Msg.{Msg}
use Rattle.world_spec.specs.NodeSteps.{to_itself}
use Rattle.own_messages.proofs.own_of.Goals as goal

pub returns : goal.returns
returns c =
    filter_same _ (λ (m : Msg). m.to.0 == c.args.node.0) _ (λ x b f' k. search rules) _ _ c.retain.ensures.filtered
    ∙ ap (to_itself c.args.node) c.outs.view_is
