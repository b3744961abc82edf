use Rattle.std.proofs.Common.{sym}
use Rattle.world_host.proofs.Steps.{step_keeps, own_of}
use Rattle.world_host.proofs.host.Host.handle.Goals as goal

pub invariant_of-self-in-Ok : goal.invariant_of-self-in-Ok
invariant_of-self-in-Ok g c =
    let found = g.B.Bodies.some c.handle.new.bodies in
    step_keeps g.C.NodeCore.state g.C.NodeCore.is_of _ c.in-Some.running.core c.handle.new.self c.in-Ok.turned c.self.inside.id c.self.inside.role c.self.inside.times (c.in-Ok.ensures.step found.0 found.1)
    (own_of g.C.NodeCore.is_of c.self.inside.id c.self.inside.times c.self.inside.up c.in-Some.running (sym c.in-Some.is) c.self.invariant)
