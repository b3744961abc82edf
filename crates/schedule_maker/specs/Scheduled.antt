-- lines that are those of a schedule
use Rattle.std.specs.Prelude.{true, false, List, [], ◌∷◌, length, ◌≤◌}
use Rattle.std.specs.List.{AllByRecursion}
use Rattle.time_line.specs.declared.line.Line.{Line}
use Rattle.time_line.specs.declared.TheConstants.{LINES}
use Rattle.schedule_text.specs.LineText.{IsLine}

-- each is a line of a schedule, the first one as the first
abbrev pub AreFormed : List Line → Type 0
AreFormed [] = Unit {0}
AreFormed (l ∷ later) = IsLine true l × AllByRecursion (IsLine false) later

-- lines of a schedule, no more than one may have
pub record AreSchedule (lines : List Line) : Type 0 where
  pub formed : AreFormed lines
  pub few : length lines ≤ LINES
