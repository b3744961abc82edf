use Rattle.std.proofs.Common.{◌≡◌, ◌≤◌, ◌<◌, ◌+◌, ◌^◌}
use Rattle.client_limits.specs.Fits.{FitsClient}
use Rattle.client_loop.specs.Carrying.{HasCome, RestsRightly, tries_after}
use Rattle.client_loop.proofs.driver.Driver.carry_out.Given as goal

abbrev pub invariant-loop : goal.invariant-loop
invariant-loop g l =
    (l.self.times ≡ l.fn.self.times)
    × (l.self.sender.node ≡ l.fn.self.sender.node)
    × (l.self.sender.boot ≡ l.fn.self.sender.boot)
    × (l.self.listener.node ≡ l.fn.self.listener.node)
    × (l.self.listener.turns ≡ l.fn.self.listener.turns)
    × (l.client.node ≡ l.fn.client.node)
    × (l.client.times ≡ l.fn.client.times)
    × FitsClient l.client.state
    × (g.L.Link.fault_count l.link ≡ g.L.Link.fault_count l.fn.link)
    × (g.C.Clock.fault_count l.clock ≡ g.C.Clock.fault_count l.fn.clock)
    × RestsRightly l.course l.client
    × (l.course.due < 2 ^ 62 + 2 ^ 40)
    × (l.self.listener.spent ≤ l.self.listener.turns)
    × (l.self.listener.turns < 2 ^ 62)
    × (l.counter + tries_after l.course ≤ l.self.listener.spent + l.course.due + l.tries)
    × HasCome (record { driver = l.fn.self; client = l.fn.client; call = l.call; tries = l.tries })
    (record { to_come = g.L.Link.given l.fn.link; sent = g.L.Link.sent l.fn.link; losses = g.L.Link.loss_count l.fn.link; to_read = g.C.Clock.readings l.fn.clock })
    (record { to_come = g.L.Link.given l.link; sent = g.L.Link.sent l.link; losses = g.L.Link.loss_count l.link; to_read = g.C.Clock.readings l.clock })
    (record { driver = l.self; client = l.client; course = l.course })
