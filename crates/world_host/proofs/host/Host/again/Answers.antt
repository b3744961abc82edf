use Rattle.std.proofs.Common.{sym}
use Rattle.world_host.specs.Turns.{again_step}
use Rattle.world_host.proofs.Steps.{call_keeps, own_of}
use Rattle.world_host.proofs.host.Host.again.Goals as goal

pub invariant_of-self-in-Ok : goal.invariant_of-self-in-Ok
invariant_of-self-in-Ok g c =
    call_keeps g.C.NodeCore.state g.C.NodeCore.is_of (λ host its. again_step host c.in-Some.running.clock its)
    c.in-Some.running.core c.again.new.self c.in-Ok.turned c.self.inside.id c.self.inside.role c.self.inside.times c.in-Ok.ensures
    (own_of g.C.NodeCore.is_of c.self.inside.id c.self.inside.times c.self.inside.up c.in-Some.running (sym c.in-Some.is) c.self.invariant)
