use Rattle.world_spec.specs.Lines.{first_step}
use Rattle.world_spec.specs.NodeSteps.{Doing}
use Rattle.time_line.specs.declared.line.Line.TheVariants as line
use Rattle.world_core.proofs.FirstSteps.{stayed, at_view, cut_nowhere, cut_planned}
use Rattle.world_core.proofs.state.State.plan_cut.Goals as goal

pub returns-in-Some-clause-step : goal.returns-in-Some-clause-step
returns-in-Some-clause-step g c =
    at_view _ _ (λ (d : Doing). first_step g.H.Hull.room d (line.Cut c.args.node c.args.count)) _ c.self.view_is (cut_planned g.H.Hull.room _ c.args.node c.args.count c.in-Some.place c.plan_cut.new.self c.in-Some.ensures c.plan_cut.ensures)

pub returns-in_default-clause-step : goal.returns-in_default-clause-step
returns-in_default-clause-step g c =
    (stayed _ _ (λ (d : Doing). first_step g.H.Hull.room d (line.Cut c.args.node c.args.count)) c.self.view_is (cut_nowhere g.H.Hull.room _ c.args.node c.args.count c.in_default.ensures)).0
