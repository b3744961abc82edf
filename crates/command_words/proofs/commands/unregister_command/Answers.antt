use Rattle.std.proofs.Common.{codes}
use Rattle.std.proofs.lemmas.Result.{IfOk-weaker}
use Rattle.command_words.specs.Commands.{client_options, placed, unregister_app}
use Rattle.command_words.proofs.Joining.{so}
use Rattle.command_words.proofs.commands.unregister_command.Goals as goal

pub returns : goal.returns
unfolding unregister_app
returns c = IfOk-weaker c.with_client_options.result _ _
    (λ made h. so (client_options c.args.inside) _ _ _ (so (placed 1 (codes "node")) _ _ _ c.named-command.ensures c.in_ok-command.ensures) h)
    c.with_client_options.ensures
