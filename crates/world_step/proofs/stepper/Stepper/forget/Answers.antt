use Rattle.std.proofs.Common.{rules, refl, sym, subst, ◌≡◌, Option, None, Ok}
use Rattle.xt_messages.specs.declared.record.Record.{Record}
use Rattle.world_spec.specs.NodeSteps.{forgets_if}
use Rattle.world_step.specs.Steps.{working}
use Rattle.world_step.proofs.Forgetting.{forgot_is}
use Rattle.world_step.proofs.stepper.Stepper.forget.Goals as goal

-- after a step that put no record no hull rewrites any
pub returns-else-is_some : goal.returns-else-is_some
returns-else-is_some g c = λ around node at.
    let d = (working around c.args.self.now).doing in
    let none : c.args.rec.now ≡ None = search rules in (
      subst (λ (rec : Option Record). forgets_if g.H.Hull.room node.id rec (Ok d) ≡ Ok d) (sym none) (forgot_is g.H.Hull.room g.H.Hull.waits node.id None d),
      record { rest = refl; lines = refl; ended = refl },
    )
