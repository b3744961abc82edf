use Rattle.std.proofs.Common.{ap, ◌∙◌}
use Rattle.xt_protocol.specs.declared.turned.Turned.{Turned}
use Rattle.client_loop.proofs.Fitting.{outs_of_call, client_of_call}
use Rattle.client_loop.proofs.giving.make.Goals as goal

pub returns-in-Ok-clause-fits : goal.returns-in-Ok-clause-fits
returns-in-Ok-clause-fits c =
    let does = c.in-Ok.ensures.step in (
      outs_of_call c.args.client.now c.call.new.self c.args.now c.requires.node c.requires.fits c.args.call.now c.outs_of.result c.requires.call
          (c.outs_of.ensures ∙ ap (λ (t : Turned). t.outs) does.1),
      client_of_call c.args.client.now c.call.new.self c.args.now c.requires.node c.requires.fits c.args.call.now c.requires.call does.0,
    )
