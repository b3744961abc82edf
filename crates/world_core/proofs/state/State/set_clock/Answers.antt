use Rattle.std.proofs.Common.{refl}
use Rattle.world_spec.specs.Lines.{first_step}
use Rattle.world_spec.specs.NodeSteps.{Doing}
use Rattle.time_line.specs.declared.line.Line.TheVariants as line
use Rattle.world_core.proofs.FirstSteps.{from_view, clock_nowhere, clock_placed}
use Rattle.world_core.proofs.state.State.set_clock.Goals as goal

pub returns-in-Some : goal.returns-in-Some
returns-in-Some g c =
    from_view _ _ _ (λ (d : Doing). first_step g.H.Hull.room d (line.Clock c.args.node c.args.clock)) c.self.view_is
    (clock_placed g.H.Hull.room _ c.args.node c.args.clock c.in-Some.place c.set_clock.new.self _ c.in-Some.ensures c.set_clock.ensures c.in_ok-tell.ensures.items, record { rest = refl; lines = refl; ended = refl })

pub returns-in_default : goal.returns-in_default
returns-in_default g c =
    from_view _ _ _ (λ (d : Doing). first_step g.H.Hull.room d (line.Clock c.args.node c.args.clock)) c.self.view_is
    (clock_nowhere g.H.Hull.room _ c.args.node c.args.clock _ c.in_default.ensures c.in_ok-tell.ensures.items, record { rest = refl; lines = refl; ended = refl })
