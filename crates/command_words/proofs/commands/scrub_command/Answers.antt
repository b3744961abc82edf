use Rattle.std.proofs.Common.{codes, false, true}
use Rattle.std.proofs.lemmas.Result.{IfOk-weaker}
use Rattle.command_words.specs.Commands.{needed_or_free, own_options, scrub_app}
use Rattle.command_words.proofs.Joining.{so}
use Rattle.command_words.proofs.commands.scrub_command.Goals as goal

pub returns : goal.returns
unfolding scrub_app
returns c = IfOk-weaker c.with_own_options.result _ _
    (λ made h. so own_options _ _ _ (so (needed_or_free false (codes "key")) _ _ _ (so (needed_or_free false (codes "dir")) _ _ _ (so (needed_or_free true (codes "store")) _ _ _ c.named-command.ensures c.in_ok-command.ensures) c.in_ok-command-2.ensures) c.in_ok-command-3.ensures) h)
    c.with_own_options.ensures
