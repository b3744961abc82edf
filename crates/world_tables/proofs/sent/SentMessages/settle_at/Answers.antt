use Rattle.std.proofs.Common.{ap, sym, ◌∙◌, ◌+◌}
use Rattle.world_spec.specs.Lines.{no_longer_pending}
use Rattle.world_tables.proofs.MessageCounts.{counts_settled, settled_is}
use Rattle.world_tables.proofs.sent.SentMessages.settle_at.Goals as goal

pub invariant_of-self : goal.invariant_of-self
invariant_of-self c =
    counts_settled c.self.inside.list.items c.self.inside.first c.self.inside.bytes c.args.place c.first_pending-first.result
    c.index_mut.result.now.message c.index_mut.result.now (rw c.self.view_is c.requires)
    (ap (λ s. s.message) (sym c.index_mut.ensures.value)) c.self.invariant
    (rw (← c.as_slice.ensures.value) c.first_pending-first.ensures)

pub returns : goal.returns
returns c =
    settled_is c.self.inside.list.items c.args.place c.index_mut.result.now (rw c.self.view_is c.requires) c.index_mut.ensures.value
    ∙ ap (λ sent. no_longer_pending sent (c.args.place + 1)) c.self.view_is
