-- the rows of a picture
use Rattle.std.specs.Prelude.{ℕ, ◌≡◌, ◌≤◌, ◌<◌, ◌+◌, ◌/◌, Option, None, List, All, length, sum, take}
use Rattle.time_line.specs.declared.entry.Entry.{Entry}
use Rattle.trace_drawing.specs.declared.rows.TheConstants.{ROW, TICK_ROW}

-- For each entry the height of its row: none where it isn't shown, else that of a line of text at least, and no more than where clocks
-- advance. In a picture of all files each entry is shown.
pub record AreHeights (entries : List Entry) (only : Option ℕ) (heights : List ℕ) : Type 0 where
  pub each : length heights ≡ length entries
  pub low : All (λ height. height ≤ TICK_ROW) heights
  pub high : All (λ height. 0 < height → ROW ≤ height) heights
  pub all : only ≡ None → All (λ height. ROW ≤ height) heights

-- where the row at this place begins, and the one before it ends
abbrev pub edge_at : ℕ → List ℕ → ℕ → ℕ
edge_at top heights place = top + sum (take place heights)

-- the middle of the row at this place
abbrev pub row_middle : ℕ → List ℕ → ℕ → ℕ
row_middle top heights place = edge_at top heights place / 2 + edge_at top heights (place + 1) / 2
