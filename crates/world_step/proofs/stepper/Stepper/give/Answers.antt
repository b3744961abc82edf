use Rattle.std.proofs.Common.{refl}
use Rattle.world_step.specs.Steps.{working}
use Rattle.world_step.proofs.Given.{give_done}
use Rattle.world_step.proofs.stepper.Stepper.give.Goals as goal

pub returns : goal.returns
returns g c = λ around node at.
    give_done g.H.Hull.room (working around c.args.self.now) (working around c.args.self.now) _ c.args.place node c.id-node.result c.args.rec.now c.args.outs.now c.test_limits.result c.keep.new.self c.send.new.nodes c.send.new.sent
    refl at c.id-node.ensures.id c.in_ok-keep.ensures.done c.in_ok-keep.ensures.room c.in_ok-send.ensures.same c.in_ok-send.ensures.sent c.test_limits.ensures refl
