use Rattle.std.proofs.Common.{◌≡◌, ◌≤◌, length, take}
use Rattle.ronly_replica.specs.Pins as rows
use Rattle.ronly_replica.proofs.ronly.pins_in.Given as goal

-- the pins of the rows so far
abbrev pub invariant-loop-row : goal.invariant-loop-row
invariant-loop-row l =
    (l.pins ≡ length (rows.pins_of (take l.row-index l.row-items))) × (l.pins ≤ l.row-index) × (l.last ≡ rows.last_of (rows.pins_of (take l.row-index l.row-items)))
