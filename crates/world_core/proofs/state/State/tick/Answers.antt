use Rattle.std.proofs.Common.{refl}
use Rattle.world_spec.specs.Lines.{first_step}
use Rattle.world_spec.specs.NodeSteps.{Doing}
use Rattle.time_line.specs.declared.line.Line.TheVariants as line
use Rattle.world_core.proofs.FirstSteps.{from_view, tick_done}
use Rattle.world_core.proofs.state.State.tick.Goals as goal

pub returns : goal.returns
returns g c =
    from_view _ _ _ (λ (d : Doing). first_step g.H.Hull.room d (line.Tick c.args.count)) c.self.view_is
    (tick_done g.H.Hull.room _ c.args.count c.tick.new.self _ c.tick.ensures c.in_ok-tell.ensures.items, record { rest = refl; lines = refl; ended = refl })
