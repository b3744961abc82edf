-- the numbers of the files that stand in the rows of a metadata server
use Rattle.std.specs.Prelude.{ℕ, Bool, false, ◌==◌, ◌≡◌, ◌≤◌, ◌+◌, if◌then◌else◌, Option, Some, None, List, [], ◌∷◌}
use Rattle.std.specs.List.{AllByRecursion}
use Rattle.std.specs.declared.cmp.Ordering.TheVariants.{Less}
use Rattle.volume_rows.specs.declared.Stored.{Stored}
use Rattle.volume_rows.specs.Paths.{Path, path_cmp}
use Rattle.volume_rows.specs.Rows.{Row, Volumes, entry_at}
use Rattle.volume_rows.specs.Grants.{stored_of, stored_in}

-- whether a row is that of a file of this number
abbrev pub is_numbered_as : ℕ → Option Stored → Bool
is_numbered_as number None = false
is_numbered_as number (Some stored) = stored.number == number

abbrev pub is_numbered : ℕ → Row → Bool
is_numbered number row = is_numbered_as number (stored_of row.entry.content)

-- how many rows are
abbrev pub rows_numbered : ℕ → List Row → ℕ
rows_numbered number [] = 0
rows_numbered number (row ∷ rows) = (if is_numbered number row then 1 else 0) + rows_numbered number rows

-- all of these rows come after this path
abbrev pub AreLater : Path → List Row → Type 0
AreLater path rows = AllByRecursion (λ (row : Row). path_cmp path row.path ≡ Less) rows

-- rows whose paths rise
abbrev pub PathsRise : List Row → Type 0
PathsRise [] = Unit {0}
PathsRise (row ∷ rows) = AreLater row.path rows × PathsRise rows

-- Paths rise, no number is that of two rows, and each is below that of the next file.
pub record NumbersFit (volumes : Volumes) : Type 0 where
  pub rise : PathsRise volumes.rows
  pub once : (number : ℕ) → rows_numbered number volumes.rows ≤ 1
  pub below : (number : ℕ) → volumes.next ≤ number → rows_numbered number volumes.rows ≡ 0

-- So files of one number stand at one path.
abbrev pub StandOnce : List Row → Type 0
StandOnce rows =
    (a b : Path) (x y : Stored) → stored_in (entry_at rows a) ≡ Some x → stored_in (entry_at rows b) ≡ Some y → x.number ≡ y.number → a ≡ b
