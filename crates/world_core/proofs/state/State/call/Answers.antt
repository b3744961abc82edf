use Rattle.std.proofs.Common.{take, drop, refl, subst}
use Rattle.world_nodes.specs.Nodes.{NodeCalls}
use Rattle.world_step.specs.Steps.{Around, working}
use Rattle.world_core.proofs.Calls.{call_steps, call_fits, is_usable}
use Rattle.world_core.proofs.state.State.call.Goals as goal

pub call-requires-clause-held : goal.call-requires-clause-held
call-requires-clause-held g c =
    λ node at.
    is_usable _ c.args.self.now c.args.client c.in-Some.place c.self.view_is c.in-Some.ensures node at c.args.call.now c.declared_of-declared.result c.declared_of-declared.ensures c.requires.usable

pub end_of_step-requires-clause-fits : goal.end_of_step-requires-clause-fits
end_of_step-requires-clause-fits g c =
    call_fits _ c.args.self.now c.args.client c.in-Some.place c.args.call.now c.declared_of-declared.result c.call.new.self c.in-Some-2.turned c.self.view_is c.in-Some.ensures c.declared_of-declared.ensures
    (subst (NodeCalls c.args.call.now c.declared_of-declared.result c.self.inside.stepper.nodes c.in-Some.ensures.0 c.call.new.self) c.in-Some-2.is (c.in_ok-turned.ensures c.in-Some.ensures.0 c.in-Some.ensures.1))
    c.requires.fits

pub returns-in-Some-2 : goal.returns-in-Some-2
returns-in-Some-2 g c =
    let around : Around = record {
      files = c.self.inside.files;
      lines = take c.self.inside.shown c.self.inside.lines.items;
      left = c.self.inside.left;
      begun = drop c.self.inside.shown c.self.inside.lines.items;
      ended = c.self.inside.ended;
    } in
    call_steps _ c.args.self.now c.args.client c.in-Some.place c.args.call.now c.declared_of-declared.result c.call.new.self c.in-Some-2.turned c.self.view_is c.in-Some.ensures c.declared_of-declared.ensures
    (subst (NodeCalls c.args.call.now c.declared_of-declared.result c.self.inside.stepper.nodes c.in-Some.ensures.0 c.call.new.self) c.in-Some-2.is (c.in_ok-turned.ensures c.in-Some.ensures.0 c.in-Some.ensures.1))
    (Unit {0}) g.H.Hull.room _ (working around c.end_of_step.new.self) c.end_of_step.result refl (c.end_of_step.ensures around)
