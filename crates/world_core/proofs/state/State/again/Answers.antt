use Rattle.std.proofs.Common.{take, drop, refl, subst}
use Rattle.world_nodes.specs.Nodes.{NodeCallsAgain}
use Rattle.world_step.specs.Steps.{Around, working}
use Rattle.world_core.proofs.Calls.{again_steps, again_fits}
use Rattle.world_core.proofs.state.State.again.Goals as goal

pub end_of_step-requires-clause-fits : goal.end_of_step-requires-clause-fits
end_of_step-requires-clause-fits g c =
    again_fits _ c.args.self.now c.args.client c.in-Some.place c.again.new.self c.in-Some-2.turned c.self.view_is c.in-Some.ensures
    (subst (NodeCallsAgain c.self.inside.stepper.nodes c.in-Some.ensures.0 c.again.new.self) c.in-Some-2.is (c.in_ok-turned.ensures c.in-Some.ensures.0 c.in-Some.ensures.1))
    c.requires.fits

pub returns-in-Some-2 : goal.returns-in-Some-2
returns-in-Some-2 g c =
    let around : Around = record {
      files = c.self.inside.files;
      lines = take c.self.inside.shown c.self.inside.lines.items;
      left = c.self.inside.left;
      begun = drop c.self.inside.shown c.self.inside.lines.items;
      ended = c.self.inside.ended;
    } in
    again_steps _ c.args.self.now c.args.client c.in-Some.place c.again.new.self c.in-Some-2.turned c.self.view_is c.in-Some.ensures
    (subst (NodeCallsAgain c.self.inside.stepper.nodes c.in-Some.ensures.0 c.again.new.self) c.in-Some-2.is (c.in_ok-turned.ensures c.in-Some.ensures.0 c.in-Some.ensures.1))
    (Unit {0}) g.H.Hull.room _ (working around c.end_of_step.new.self) c.end_of_step.result refl (c.end_of_step.ensures around)
