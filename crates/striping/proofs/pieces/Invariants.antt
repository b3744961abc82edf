use Rattle.std.proofs.Common.{List, ◌++◌, ◌-◌, ◌≤◌}
use Rattle.striping.specs.declared.Piece.{Piece}
use Rattle.striping.specs.Cover.{Covers}
use Rattle.striping.proofs.pieces.Given as goal

-- what covers the rest of the range covers the whole after these
abbrev pub invariant-loop-from : goal.invariant-loop-from
invariant-loop-from l =
    (l.from ≤ l.end)
    × ((rest : List Piece) → Covers l.stripe l.width l.from l.end rest → Covers l.stripe l.width l.fn.offset l.end (l.pieces.items ++ rest))

abbrev pub decreases-loop-from : goal.decreases-loop-from
decreases-loop-from l = l.end - l.from
