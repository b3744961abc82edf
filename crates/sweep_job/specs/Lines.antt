-- what is put of a sweep
use Rattle.std.specs.Prelude.{ℕ, Bool, true, false, List, ◌++◌, codes, count_by}
use Rattle.std.specs.Fmt.{decimal}
use Rattle.xt_base.specs.declared.ids.FileId.{FileId}
use Rattle.orphan_sweep.specs.declared.fate.Fate.{Fate}
use Rattle.orphan_sweep.specs.declared.fate.Fate.TheVariants as fate

abbrev pub is_orphan : FileId × Fate → Bool
is_orphan (file, fate.Orphan) = true
is_orphan (file, fate.Kept) = false
is_orphan (file, fate.Unknown) = false

abbrev pub is_kept : FileId × Fate → Bool
is_kept (file, fate.Orphan) = false
is_kept (file, fate.Kept) = true
is_kept (file, fate.Unknown) = false

abbrev pub is_unknown : FileId × Fate → Bool
is_unknown (file, fate.Orphan) = false
is_unknown (file, fate.Kept) = false
is_unknown (file, fate.Unknown) = true

abbrev pub line_of : ℕ → ℕ → ℕ → List ℕ
line_of swept kept unknown =
    codes "swept " ++ (decimal swept ++ (codes " kept " ++ (decimal kept ++ (codes " unknown " ++ (decimal unknown ++ codes "\n")))))

-- how many files were removed, how many stay that the server made, and how many stay that it didn't make
abbrev pub swept_line : List (FileId × Fate) → List ℕ
swept_line fates = line_of (count_by is_orphan fates) (count_by is_kept fates) (count_by is_unknown fates)
