use Rattle.std.proofs.Common.{◌≡◌, take}
use Rattle.std.specs.Prelude.{sum_by}
use Rattle.xt_messages.specs.FrameLength.{text_length}
use Rattle.world_tables.specs.Within64.{within_64}
use Rattle.world_tables.proofs.lengths.texts_length.Given as goal

abbrev pub invariant-loop-text : goal.invariant-loop-text
invariant-loop-text l = l.all ≡ within_64 (sum_by text_length (take l.text-index l.texts))
