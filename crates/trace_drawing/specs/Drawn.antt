-- what is drawn
use Rattle.std.specs.Prelude.{ℕ, ◌≡◌, ◌<◌, ◌+◌, ◌/◌, min, Option, Some, None, List, [], ◌∷◌, ◌++◌, slice_get, unwrap_or}
use Rattle.std.specs.Fmt.{decimal}
use Rattle.trace_shapes.specs.declared.shape.Point.{Point}
use Rattle.trace_shapes.specs.declared.shape.Script.TheVariants as script
use Rattle.trace_shapes.specs.declared.shape.Shape.{Shape}
use Rattle.trace_shapes.specs.declared.shape.Shape.TheVariants as shape

-- more shapes were drawn over the old ones
pub record Extends (old new : List Shape) : Type 0 where
  pub more : List Shape
  pub is : new ≡ old ++ more

-- the shape is among these
pub record Has (shapes : List Shape) (s : Shape) : Type 0 where
  pub under : List Shape
  pub over : List Shape
  pub is : shapes ≡ under ++ s ∷ over

-- where the foot of a text stands whose middle is at this height
abbrev pub foot_of : ℕ → ℕ
foot_of y = min (y + 4) 18446744073709551615

-- the number of an entry, beside its row
abbrev pub numeral : ℕ → ℕ → Shape
numeral y number = shape.Text script.Number (record { x = 48; y = foot_of y }) (decimal number)

-- the height of the row at this place, or none after the last one
abbrev pub height_at : List ℕ → ℕ → ℕ
height_at heights place = unwrap_or (slice_get heights place) 0

abbrev pub between : Option ℕ → Option ℕ → ℕ → ℕ
between (Some upper) (Some lower) bottom = upper / 2 + lower / 2
between (Some upper) None bottom = bottom
between None lower bottom = bottom

-- the middle between the edge at this place and the next one, or the bottom after the last one
abbrev pub middle_of : List ℕ → ℕ → ℕ → ℕ
middle_of edges bottom place = between (slice_get edges place) (slice_get edges (place + 1)) bottom

-- Each of the first entries, up to so many, that has a row has its number beside it.
abbrev pub AreNumbered : List ℕ → List ℕ → ℕ → ℕ → List Shape → Type 0
AreNumbered heights edges bottom count shapes =
    (k : ℕ) → k < count → 0 < height_at heights k → Has shapes (numeral (middle_of edges bottom k) (k + 1))
