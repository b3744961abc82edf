use Rattle.std.proofs.Common.{◌≡◌, take}
use Rattle.std.specs.Prelude.{sum_by}
use Rattle.xt_messages.specs.FrameLength.{row_length}
use Rattle.world_tables.specs.Within64.{within_64}
use Rattle.world_tables.proofs.lengths.rows_length.Given as goal

abbrev pub invariant-loop-row : goal.invariant-loop-row
invariant-loop-row l = l.all ≡ within_64 (sum_by row_length (take l.row-index l.rows))
