use Rattle.std.proofs.Common.{Ok, take, drop, refl, ap, sym, ◌∙◌, subst}
use Rattle.world_spec.specs.NodeSteps.{Doing, event_comes}
use Rattle.world_nodes.specs.Nodes.{NodesView, NodeHandles}
use Rattle.world_step.specs.Steps.{Around, working}
use Rattle.world_core.proofs.FirstSteps.{from_view, stayed}
use Rattle.world_core.proofs.Events.{event_nowhere, event_down, event_steps, running_fits, end_fits}
use Rattle.world_core.proofs.state.State.event_comes.Goals as goal

pub returns-in_default : goal.returns-in_default
returns-in_default g c = stayed _ _ (λ (d : Doing). event_comes g.H.Hull.room d c.args.id c.args.ev.now) c.self.view_is (event_nowhere g.H.Hull.room _ c.args.id c.args.ev.now c.in_default.ensures)

pub handle-requires-clause-running : goal.handle-requires-clause-running
handle-requires-clause-running g c = running_fits _ c.args.self.now c.args.id c.args.ev.now c.in-Some.place c.self.view_is c.requires c.in-Some.ensures

pub end_of_step-requires-clause-fits : goal.end_of_step-requires-clause-fits
end_of_step-requires-clause-fits g c =
    end_fits _ c.args.self.now c.args.id c.args.ev.now c.in-Some.place c.self.view_is c.requires c.in-Some.ensures c.handle.new.self c.in-Some-2.turned
    (subst (NodeHandles c.args.ev.now c.self.inside.stepper.nodes c.in-Some.ensures.0 c.handle.new.self) c.in-Some-2.is (c.in_ok-turned.ensures c.in-Some.ensures.0 c.in-Some.ensures.1))

pub returns-in-Some-2 : goal.returns-in-Some-2
returns-in-Some-2 g c =
    let around : Around = record {
      files = c.self.inside.files;
      lines = take c.self.inside.shown c.self.inside.lines.items;
      left = c.self.inside.left;
      begun = drop c.self.inside.shown c.self.inside.lines.items;
      ended = c.self.inside.ended;
    } in
    event_steps (Unit {0}) g.H.Hull.room _ c.args.self.now _ (working around c.end_of_step.new.self) c.args.id c.args.ev.now c.in-Some.place c.in-Some.ensures.0 c.handle.new.self c.in-Some-2.turned c.end_of_step.result
    c.self.view_is c.in-Some.ensures.1 c.in-Some.ensures.2
    (subst (NodeHandles c.args.ev.now c.self.inside.stepper.nodes c.in-Some.ensures.0 c.handle.new.self) c.in-Some-2.is (c.in_ok-turned.ensures c.in-Some.ensures.0 c.in-Some.ensures.1))
    refl (c.end_of_step.ensures around)

pub returns-in-None : goal.returns-in-None
returns-in-None g c =
    let handles = (subst (NodeHandles c.args.ev.now c.self.inside.stepper.nodes c.in-Some.ensures.0 c.handle.new.self) c.in-None.is (c.in_ok-turned.ensures c.in-Some.ensures.0 c.in-Some.ensures.1)) in
    from_view _ _ _ (λ (d : Doing). event_comes g.H.Hull.room d c.args.id c.args.ev.now) c.self.view_is (
      event_down g.H.Hull.room _ c.args.id c.args.ev.now c.in-Some.place c.in-Some.ensures.0 c.in-Some.ensures.1 c.in-Some.ensures.2 handles.0
          ∙ ap (λ (v : NodesView). Ok (record {
            world = record {
              times = v.times;
              nodes = v.nodes;
              files = c.self.inside.files;
              made = c.self.inside.stepper.made.items;
              sent = c.self.inside.stepper.sent;
              entries = c.self.inside.stepper.entries.items;
              lines = take c.self.inside.shown c.self.inside.lines.items;
              ended = c.self.inside.ended;
            };
            own = c.self.inside.stepper.own;
            left = c.self.inside.left;
          })) (sym handles.1),
      record { rest = refl; lines = refl; ended = refl },
    )
