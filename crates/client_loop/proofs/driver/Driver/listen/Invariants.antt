use Rattle.std.proofs.Common.{◌≡◌, ◌≤◌, ◌<◌, ◌^◌}
use Rattle.client_loop.specs.Waiting.{HasHeard}
use Rattle.client_loop.proofs.driver.Driver.listen.Given as goal

abbrev pub invariant-loop : goal.invariant-loop
invariant-loop g l =
    (l.self.times ≡ l.fn.self.times)
    × (l.self.sender ≡ l.fn.self.sender)
    × (l.self.listener.turns ≡ l.fn.self.listener.turns)
    × (l.self.listener.spent ≤ l.self.listener.turns)
    × (l.self.listener.turns < 2 ^ 62)
    × (l.counter ≤ l.self.listener.spent)
    × (g.L.Link.sent l.link ≡ g.L.Link.sent l.fn.link)
    × (g.L.Link.loss_count l.link ≡ g.L.Link.loss_count l.fn.link)
    × (g.L.Link.fault_count l.link ≡ g.L.Link.fault_count l.fn.link)
    × (g.C.Clock.fault_count l.clock ≡ g.C.Clock.fault_count l.fn.clock)
    × HasHeard l.until l.fn.self.listener (g.L.Link.given l.fn.link) (g.L.Link.given l.link) (g.C.Clock.readings l.fn.clock) (g.C.Clock.readings l.clock) l.self.listener
