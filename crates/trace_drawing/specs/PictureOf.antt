-- a picture of a trace
use Rattle.std.specs.Prelude.{ℕ, ◌≡◌, ◌<◌, ◌+◌, Option, List, length}
use Rattle.time_line.specs.declared.entry.Entry.{Entry}
use Rattle.trace_shapes.specs.declared.shape.Picture.{Picture}
use Rattle.trace_shapes.specs.Pictures.{IsTextOf}
use Rattle.trace_drawing.specs.Edges.{AreHeights, edge_at, row_middle}
use Rattle.trace_drawing.specs.Drawn.{Has, numeral, height_at}

-- Each entry that is shown has a row and, in its middle, its number; the rows go down in the order of the entries.
pub record HasRows (entries : List Entry) (only : Option ℕ) (picture : Picture) : Type 0 where
  pub heights : List ℕ
  pub rows : AreHeights entries only heights
  pub top : ℕ
  pub numbered :
      (k : ℕ) → k < length entries → 0 < height_at heights k
      → Has picture.shapes.items (numeral (row_middle top heights k) (k + 1))
  pub down :
      (j k : ℕ) → j < k → k < length entries → 0 < height_at heights j → 0 < height_at heights k
      → row_middle top heights j < row_middle top heights k

-- the text of a picture in which each entry that is shown has its row
pub record IsPictureOf (entries : List Entry) (only : Option ℕ) (text : List ℕ) : Type 0 where
  pub picture : Picture
  pub spelled : IsTextOf picture text
  pub rows : HasRows entries only picture
