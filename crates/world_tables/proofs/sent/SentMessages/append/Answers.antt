use Rattle.std.proofs.Common.{ap, ◌∙◌}
use Rattle.std.specs.Prelude.{sum_by}
use Rattle.xt_messages.specs.FrameLength.{frame_length}
use Rattle.world_tables.specs.Within64.{within_64}
use Rattle.world_tables.proofs.MessageCounts.{counts_sent}
use Rattle.world_tables.proofs.sent.SentMessages.append.Goals as goal

pub invariant_of-self-2 : goal.invariant_of-self-2
invariant_of-self-2 c =
    let length = c.frames_length-length.ensures ∙ ap (λ ms. within_64 (sum_by frame_length ms)) c.as_slice.ensures in
    rw (c.in_ok-append.ensures.items, c.in_ok-made.ensures)
    (counts_sent c.self.inside.list.items c.self.inside.first c.self.inside.bytes c.args.messages c.frames_length-length.result
    c.saturating_add-self-inside.result c.self.invariant length c.saturating_add-self-inside.ensures)
