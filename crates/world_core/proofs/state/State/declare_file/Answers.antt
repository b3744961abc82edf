use Rattle.std.proofs.Common.{◌∙◌, ◌++◌, ◌∷◌, [], ap, refl}
use Rattle.xt_base.specs.declared.ids.FileId.{FileId}
use Rattle.world_spec.specs.Lines.{first_step}
use Rattle.world_spec.specs.NodeSteps.{Doing}
use Rattle.time_line.specs.declared.line.Line.TheVariants as line
use Rattle.world_core.proofs.FirstSteps.{from_view, file_declared}
use Rattle.world_core.proofs.state.State.declare_file.Goals as goal

pub returns : goal.returns
returns g c =
    from_view _ _ _ (λ (d : Doing). first_step g.H.Hull.room d (line.File c.args.number c.args.location.now)) c.self.view_is
    (file_declared g.H.Hull.room _ c.args.number c.args.location.now c.declare.new.self _ (c.in_ok-declare.ensures.ok ∙ ap (λ (f : FileId). c.self.inside.files ++ record { file = f; location = c.args.location.now } ∷ []) c.declared_file.ensures) c.in_ok-tell.ensures.items, record { rest = refl; lines = refl; ended = refl })
