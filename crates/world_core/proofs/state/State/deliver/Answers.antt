use Rattle.world_core.proofs.Events.{delivery_fits, delivered_so}
use Rattle.world_core.proofs.state.State.deliver.Goals as goal

pub hand-requires : goal.hand-requires
hand-requires g c =
    delivery_fits _ c.args.self.now c.args.number c.in-Some.message.now c.in_ok-message.message c.settle.new.self c.self.view_is c.requires.fits c.in-Some.ensures c.in_ok-message.ensures

pub returns : goal.returns
returns g c =
    delivered_so (Unit {0}) g.H.Hull.room _ c.args.self.now c.hand.new.self c.args.number c.in-Some.message.now c.in_ok-message.message c.settle.new.self c.hand.result
    c.self.view_is c.in-Some.ensures c.in_ok-message.ensures c.settle.ensures c.hand.ensures
