use Rattle.std.proofs.Common.{ap, sym, ◌∙◌, arith, length, ◌<◌, ◌≤◌}
use Rattle.world_spec.specs.Lines.{least_pending}
use Rattle.world_tables.proofs.MessageCounts.{least_is, least_is_none}
use Rattle.world_tables.proofs.sent.SentMessages.least_pending.Goals as goal

pub returns-then-self-len-clause-least : goal.returns-then-self-len-clause-least
returns-then-self-len-clause-least c =
    let lt : c.self.inside.first < length c.self.inside.list.items = omega arith in
    sym (ap (least_pending 1) (sym c.self.view_is) ∙ least_is c.self.inside.list.items c.self.inside.first c.self.inside.bytes c.self.invariant lt)

pub returns-else-self-len-clause-least : goal.returns-else-self-len-clause-least
returns-else-self-len-clause-least c =
    let past : length c.self.inside.list.items ≤ c.self.inside.first = omega arith in
    sym (ap (least_pending 1) (sym c.self.view_is) ∙ least_is_none c.self.inside.list.items c.self.inside.first c.self.inside.bytes c.self.invariant past)
