use Rattle.world_spec.specs.Lines.{first_step}
use Rattle.world_spec.specs.NodeSteps.{Doing}
use Rattle.time_line.specs.declared.line.Line.TheVariants as line
use Rattle.world_core.proofs.FirstSteps.{from_view, stayed, stop_nowhere, stop_down, stop_told}
use Rattle.std.proofs.Common.{take, drop, ap, sym, ◌∙◌}
use Rattle.world_step.specs.Steps.{Working, Around, working}
use Rattle.world_core.proofs.state.State.stop.Goals as goal

pub returns-in_default : goal.returns-in_default
returns-in_default g c =
    stayed _ _ (λ (d : Doing). first_step g.H.Hull.room d (line.Stop c.args.node)) c.self.view_is (stop_nowhere g.H.Hull.room _ c.args.node c.in_default.ensures)

pub returns-in_default-moment : goal.returns-in_default-moment
returns-in_default-moment g c =
    stayed _ _ (λ (d : Doing). first_step g.H.Hull.room d (line.Stop c.args.node)) c.self.view_is (stop_down g.H.Hull.room _ c.args.node c.in-Some.place c.in-Some.ensures (λ node at. sym c.in_default-moment.is ∙ c.moment.ensures.moment node at))

pub returns : goal.returns
returns g c =
    let around : Around = record {
      files = c.self.inside.files;
      lines = take c.self.inside.shown c.self.inside.lines.items;
      left = c.self.inside.left;
      begun = drop c.self.inside.shown c.self.inside.lines.items;
      ended = c.self.inside.ended;
    } in
    from_view _ _ _ (λ (d : Doing). first_step g.H.Hull.room d (line.Stop c.args.node)) c.self.view_is
    (stop_told g.H.Hull.room _ (working around c.halt.new.self) c.args.node c.in-Some.place c.in-Some.ensures c.in-Some-moment.moment _ (λ node at. sym c.in-Some-moment.is ∙ c.moment.ensures.moment node at) c.in_ok-tell.ensures.items
    (ap (λ (x : Working). x.doing.own) c.self.view_is ∙ c.requires) (c.halt.ensures around c.in-Some.ensures.0 c.in-Some.ensures.1))
