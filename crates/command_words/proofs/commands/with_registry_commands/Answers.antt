use Rattle.std.proofs.Common.{◌∙◌, ap}
use Rattle.std.proofs.lemmas.Result.{IfOk-weaker}
use Rattle.command_words.specs.Commands.{joined, nodes_app, register_app, unregister_app, with_registry_commands}
use Rattle.command_words.proofs.commands.with_registry_commands.Goals as goal

pub returns : goal.returns
unfolding with_registry_commands
returns c = IfOk-weaker c.joined-3.result _ _ (λ made h. h (nodes_app c.args.inside) c.nodes_command.ensures ∙ ap (λ all. joined all (nodes_app c.args.inside)) (c.in_ok-all-2.ensures (unregister_app c.args.inside) c.unregister_command.ensures ∙ ap (λ all. joined all (unregister_app c.args.inside)) (c.in_ok-all.ensures (register_app c.args.inside) c.register_command.ensures))) c.joined-3.ensures
