-- the order of size marks, and the join of those that a file's clients report
use Rattle.std.specs.Prelude.{Bool, ◌&&◌, ◌||◌, ◌==◌, nat_lt, if◌then◌else◌, List, [], ◌∷◌, Contains, ◌↔◌}
use Rattle.xt_base.specs.declared.ids.SizeMark.{SizeMark}

-- Marks are ordered by epoch, then size: within one epoch a file only grows, and a truncation begins a new epoch.
abbrev pub is_smaller : SizeMark → SizeMark → Bool
is_smaller a b = nat_lt a.epoch b.epoch || a.epoch == b.epoch && nat_lt a.size b.size

-- the greater of two marks
abbrev pub merged : SizeMark → SizeMark → SizeMark
merged a b = if is_smaller a b then b else a

-- a mark after all these reports, one after the other
abbrev pub joined : SizeMark → List SizeMark → SizeMark
joined mark [] = mark
joined mark (report ∷ reports) = joined (merged mark report) reports

-- the same reports, in whatever order, and each however often
pub record SameReports (one other : List SizeMark) : Type 0 where
  pub each : (mark : SizeMark) → Contains one mark ↔ Contains other mark
