use Rattle.std.proofs.Common.{◌≡◌, ◌≤◌, ◌<◌, None, length}
use Rattle.std.specs.Prelude.{All}
use Rattle.trace_drawing.specs.declared.rows.TheConstants.{ROW, TICK_ROW}
use Rattle.trace_drawing.proofs.rows.heights_of.Given as goal

-- the rows so far are as high as they may be
abbrev pub invariant-loop-at : goal.invariant-loop-at
invariant-loop-at l =
    (length l.heights.items ≡ l.at) × All (λ height. height ≤ TICK_ROW) l.heights.items
    × All (λ height. 0 < height → ROW ≤ height) l.heights.items
    × (l.only ≡ None → All (λ height. ROW ≤ height) l.heights.items)
