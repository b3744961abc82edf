use Rattle.std.proofs.Common.{refl, ap, ◌∙◌}
use Rattle.xt_base.specs.TimeSettings.{TimeSettings}
use Rattle.world_spec.specs.Lines.{first_step}
use Rattle.world_spec.specs.NodeSteps.{Doing}
use Rattle.time_line.specs.declared.line.Line.TheVariants as line
use Rattle.world_core.proofs.FirstSteps.{from_view, times_are, times_set}
use Rattle.world_core.proofs.state.State.set_times.Goals as goal

pub returns : goal.returns
returns g c =
    from_view _ _ _ (λ (d : Doing). first_step g.H.Hull.room d (line.Times c.args.lease c.args.drift)) c.self.view_is
    (times_set g.H.Hull.room _ c.args.lease c.args.drift c.set_times.new.self _ (c.set_times.ensures ∙ ap (λ (t : TimeSettings). record { times = t; nodes = c.self.inside.stepper.nodes.nodes }) (times_are c.new.result c.unwrap.result c.args.lease c.args.drift c.unwrap.ensures c.new.ensures.value)) c.in_ok-tell.ensures.items, record { rest = refl; lines = refl; ended = refl })
