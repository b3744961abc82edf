use Rattle.std.proofs.Common.{◌≡◌, ◌∙◌, Option, Some, List, ap, sym, subst}
use Rattle.std.specs.Option.{IfSome}
use Rattle.xt_messages.specs.declared.event.Mark.{Mark}
use Rattle.xt_messages.specs.declared.message.Msg.{Msg}
use Rattle.xt_messages.specs.declared.record.Record.{Record}
use Rattle.xt_protocol.specs.declared.turned.Turned.{Turned}
use Rattle.world_spec.specs.World.{Node, Running}
use Rattle.world_spec.specs.NodeSteps.{end_of_step}
use Rattle.world_limits.specs.Fits.{FitsRunning}
use Rattle.world_nodes.specs.Nodes.{IsAt}
use Rattle.world_step.specs.Steps.{Around, IsStepped, working}
use Rattle.world_step.specs.Endings.{given_by, FitsGiven}
use Rattle.world_step.proofs.stepper.Stepper.end_of_step.Goals as goal

-- what a step gives, put together of its parts
whole : (turned : Turned) (rec : Option Record) (outs : List Msg) (marks : List Mark) → rec ≡ turned.rec → outs ≡ turned.outs → marks ≡ turned.marks → given_by rec outs marks ≡ turned
whole turned rec outs marks is_rec is_outs is_marks =
    ap (λ (r : Option Record). given_by r outs marks) is_rec
    ∙ ap (λ (o : List Msg). given_by turned.rec o marks) is_outs
    ∙ ap (λ (m : List Mark). given_by turned.rec turned.outs m) is_marks

pub end_by_plans-requires-clause-fits : goal.end_by_plans-requires-clause-fits
end_by_plans-requires-clause-fits g c =
    let parts = c.into_parts-rec.result in
    let told = c.into_parts-rec.ensures in
    subst (λ (t : Turned). (node : Node) → IsAt c.args.self.now.nodes.nodes c.args.place node → FitsGiven node t × IfSome node.up FitsRunning)
    (sym (whole c.args.turned parts.0 parts.1 parts.2 told.rec told.outs told.marks)) c.requires.fits

pub returns : goal.returns
returns g c =
    let parts = c.into_parts-rec.result in
    let told = c.into_parts-rec.ensures in
    subst (λ (t : Turned). (around : Around) (node : Node) (running : Running) → IsAt c.args.self.now.nodes.nodes c.args.place node → node.up ≡ Some running
    → IsStepped (working around c.args.self.now) (end_of_step g.H.Hull.room (working around c.args.self.now).doing node running (record { state = running.core; turned = t })) (working around c.end_by_plans.new.self) c.end_by_plans.result)
    (whole c.args.turned parts.0 parts.1 parts.2 told.rec told.outs told.marks) c.end_by_plans.ensures
