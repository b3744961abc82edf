use Rattle.world_tables.proofs.MessageCounts.{counts_pushed}
use Rattle.world_tables.proofs.sent.SentMessages.push.Goals as goal

pub invariant_of-self-2 : goal.invariant_of-self-2
invariant_of-self-2 c =
    rw c.in_ok-push.ensures.items
    (counts_pushed c.self.inside.list.items c.self.inside.first c.self.inside.bytes c.args.message c.saturating_add-self-inside.result
    c.self.invariant (rw (← c.frame_length-length.ensures) c.saturating_add-self-inside.ensures))
