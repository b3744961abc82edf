use Rattle.std.proofs.Common.{ap, subst, ◌∙◌}
use Rattle.xt_protocol.specs.declared.turned.Turned.{Turned}
use Rattle.client_loop.specs.Carrying.{FitsHanded}
use Rattle.client_loop.proofs.Fitting.{outs_of_again, client_of_again, outs_of_step, client_of_step}
use Rattle.client_loop.proofs.giving.give.Goals as goal

pub returns-in-Ok-clause-fits : goal.returns-in-Ok-clause-fits
returns-in-Ok-clause-fits c =
    let does = c.in-Ok.ensures.step in (
      outs_of_again c.args.client.now c.again.new.self c.args.now c.requires.node c.requires.fits c.outs_of.result
          (c.outs_of.ensures ∙ ap (λ (t : Turned). t.outs) does.1),
      client_of_again c.args.client.now c.again.new.self c.args.now c.requires.node c.requires.fits does.0,
    )

pub returns-in-Ok-step-clause-fits : goal.returns-in-Ok-step-clause-fits
returns-in-Ok-step-clause-fits c =
    let does = c.in-Ok-step.ensures.step in
    let fits = subst FitsHanded c.in-Event.is c.requires.handed in (
      outs_of_step c.args.client.now c.step.new.self c.args.now c.requires.node c.requires.fits c.in-Event.event c.outs_of-in-Ok-step.result fits
          (c.outs_of-in-Ok-step.ensures ∙ ap (λ (t : Turned). t.outs) does.1),
      client_of_step c.args.client.now c.step.new.self c.args.now c.requires.node c.requires.fits c.in-Event.event fits does.0,
    )
