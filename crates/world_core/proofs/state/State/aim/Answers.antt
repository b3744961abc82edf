use Rattle.std.proofs.Common.{refl}
use Rattle.world_spec.specs.Lines.{first_step}
use Rattle.world_spec.specs.NodeSteps.{Doing}
use Rattle.time_line.specs.declared.line.Line.TheVariants as line
use Rattle.world_core.proofs.FirstSteps.{from_view, stayed, aim_nowhere, aim_placed}
use Rattle.world_core.proofs.state.State.aim.Goals as goal

pub returns-in_ok-aim : goal.returns-in_ok-aim
returns-in_ok-aim g c =
    from_view _ _ _ (λ (d : Doing). first_step g.H.Hull.room d (line.Aim c.args.client c.args.file c.args.node)) c.self.view_is (
      aim_placed g.H.Hull.room _ c.args.client c.args.file c.args.node c.in-Some.place c.find-declared.result c.aim.new.self c.in-Some.ensures
          c.find-declared.ensures c.in_ok-aim.ensures,
      record { rest = refl; lines = refl; ended = refl },
    )

pub returns-in_default : goal.returns-in_default
returns-in_default g c =
    stayed _ _ (λ (d : Doing). first_step g.H.Hull.room d (line.Aim c.args.client c.args.file c.args.node)) c.self.view_is (aim_nowhere g.H.Hull.room _ c.args.client c.args.file c.args.node c.in_default.ensures)
