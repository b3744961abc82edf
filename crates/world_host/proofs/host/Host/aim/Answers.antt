use Rattle.std.proofs.Common.{sym}
use Rattle.world_host.proofs.Steps.{own_of}
use Rattle.world_host.proofs.host.Host.aim.Goals as goal

pub invariant_of-self-in-Ok : goal.invariant_of-self-in-Ok
invariant_of-self-in-Ok g c =
    c.in-Ok.ensures.1 c.self.inside.id c.self.inside.times
    (own_of g.C.NodeCore.is_of c.self.inside.id c.self.inside.times c.self.inside.up c.in-Some.field-0 (sym c.in-Some.is) c.self.invariant)
