use Rattle.std.proofs.Common.{ap, ◌∙◌, ◌∷◌, []}
use Rattle.xt_base.specs.declared.ids.NodeId.{NodeId}
use Rattle.xt_protocol.specs.Turns.{joined, sends}
use Rattle.xt_protocol.specs.OsdSteps.{asks_dir}
use Rattle.osd_core.proofs.Stepping.{met_woke}
use Rattle.osd_core.proofs.slots.wake.Goals as goal

pub returns-clause-step : goal.returns-clause-step
returns-clause-step c =
    let gave = c.in_ok-woken.woken in
    let met = c.args.met.now in
    met_woke c.args.now c.args.awake met c.end_busy.new.slots gave c.in_ok-turned.turned (c.in_ok-woken.ensures c.args.awake c.requires.met) (c.end_busy.ensures c.args.awake c.requires.met)
    (c.in_ok-turned.ensures ∙ ap (λ (n : NodeId). joined (sends (asks_dir n ∷ [])) (joined gave.overdue gave.again)) c.node.ensures)
