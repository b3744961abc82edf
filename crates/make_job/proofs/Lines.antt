-- what is generated may be replayed
use Rattle.std.proofs.Common.{◌≡◌, ℕ, ◌≤◌, true, false, List, [], ◌∷◌, ◌++◌, refl}
use Rattle.std.specs.List.{AllByRecursion}
use Rattle.time_line.specs.declared.line.Line.{Line}
use Rattle.time_line.specs.declared.line.Line.TheVariants as line
use Rattle.time_line.specs.Bounds.{FitsLater, AreLines}
use Rattle.schedule_text.specs.LineText.{IsLine}
use Rattle.schedule_maker.specs.Generated.{generated}
use Rattle.schedule_maker.specs.Scheduled.{AreFormed}
use Rattle.schedule_maker.proofs.Formed.{generated_scheduled}

-- only the first line of a schedule may set the times
untimed : (l : Line) → IsLine false l → FitsLater l
untimed (line.Times lease drift) is = absurd (let never : false ≡ true = is.0 in cc)
untimed _ is = (is.1, refl)

later_fit : (lines : List Line) → AllByRecursion (IsLine false) lines → AllByRecursion FitsLater lines
later_fit [] are = tt
later_fit (l ∷ ls) are = (untimed l are.0, later_fit ls are.1)

formed_fit : (lines : List Line) → AreFormed lines → AreLines lines
formed_fit [] are = tt
formed_fit (l ∷ ls) are = (are.0.1, later_fit ls are.1)

pub generated_fit : (number size : ℕ) → size ≤ 4096 → AreLines (generated number size)
generated_fit number size few = formed_fit (generated number size) (generated_scheduled number size few).formed

-- a front of lines within their limits is within them
later_front : (lines more : List Line) → AllByRecursion FitsLater (lines ++ more) → AllByRecursion FitsLater lines
later_front [] more are = tt
later_front (l ∷ ls) more are = (are.0, later_front ls more are.1)

pub lines_front : (lines more : List Line) → AreLines (lines ++ more) → AreLines lines
lines_front [] more are = tt
lines_front (l ∷ ls) more are = (are.0, later_front ls more are.1)
