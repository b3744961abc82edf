use Rattle.std.proofs.Common.{ap, ◌∙◌}
use Rattle.world_spec.specs.Rules.{refusal}
use Rattle.world_step.specs.Steps.{Working}
use Rattle.world_core.proofs.FirstSteps.{start_rule, clock_rule}
use Rattle.world_core.proofs.state.State.refusal.Goals as goal

pub returns-in-Start : goal.returns-in-Start
returns-in-Start g c =
    start_rule _ c.args.line.now c.in-Start.node c.in-Start.clock _ _ _ _ _ c.in-Start.is c.no_server.ensures c.runs_already.ensures c.drifts-close.ensures c.or-in-Start.ensures c.or-in-Start-2.ensures
    ∙ ap (λ (x : Working). refusal x.doing.world c.args.line.now) c.self.view_is

pub returns-in-Clock : goal.returns-in-Clock
returns-in-Clock g c =
    clock_rule _ c.args.line.now c.in-Clock.node c.in-Clock.clock _ _ _ _ _ _ _ c.in-Clock.is c.no_node.ensures c.runs_not.ensures c.goes_back.ensures c.drifts-close-in-Clock.ensures c.or-rises.ensures c.or-in-Clock.ensures c.or-in-Clock-2.ensures
    ∙ ap (λ (x : Working). refusal x.doing.world c.args.line.now) c.self.view_is
