use Rattle.world_spec.specs.Lines.{first_step}
use Rattle.world_spec.specs.NodeSteps.{Doing}
use Rattle.time_line.specs.declared.line.Line.TheVariants as line
use Rattle.world_core.proofs.FirstSteps.{stayed, at_view, crash_nowhere, crash_planned}
use Rattle.std.proofs.Common.{ℕ, subst}
use Rattle.world_spec.specs.Lines.{crashes}
use Rattle.world_nodes.specs.Nodes.{ChangesUp}
use Rattle.world_core.proofs.state.State.plan_crash.Goals as goal

pub returns-in-Some-clause-step : goal.returns-in-Some-clause-step
returns-in-Some-clause-step g c =
    at_view _ _ (λ (d : Doing). first_step g.H.Hull.room d (line.Crash c.args.node c.args.call c.args.fill)) _ c.self.view_is
    (crash_planned g.H.Hull.room _ c.args.node c.args.call c.args.fill c.in-Some.place c.plan_crash.new.self c.in-Some.ensures
    (subst (λ (k : ℕ). ChangesUp c.self.inside.stepper.nodes c.in-Some.place (crashes k c.args.fill) c.plan_crash.new.self) c.from-call.ensures c.plan_crash.ensures))

pub returns-in_default-clause-step : goal.returns-in_default-clause-step
returns-in_default-clause-step g c =
    (stayed _ _ (λ (d : Doing). first_step g.H.Hull.room d (line.Crash c.args.node c.args.call c.args.fill)) c.self.view_is (crash_nowhere g.H.Hull.room _ c.args.node c.args.call c.args.fill c.in_default.ensures)).0
