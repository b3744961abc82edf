use Rattle.std.proofs.Common.{◌≡◌, take}
use Rattle.std.specs.Prelude.{sum_by}
use Rattle.xt_messages.specs.FrameLength.{frame_length}
use Rattle.world_tables.specs.Within64.{within_64}
use Rattle.world_tables.proofs.sent.frames_length.Given as goal

abbrev pub invariant-loop-message : goal.invariant-loop-message
invariant-loop-message l = l.all ≡ within_64 (sum_by frame_length (take l.message-index l.messages))
