-- what the list below the root has of the whole tree's
use Rattle.std.proofs.Common.{◌≡◌, ◌∙◌, ℕ, List, [], ◌∷◌, ◌++◌, map, drop, refl, sym, ap, subst, Bool, true, false, cond}
use Rattle.std.specs.Prelude.{Option, fold}
use Rattle.xt_messages.specs.declared.meta.MetaRefusal.{MetaRefusal}
use Rattle.volume_rows.specs.declared.Asker.{Asker}
use Rattle.volume_rows.specs.declared.Entry.{Entry}
use Rattle.volume_rows.specs.Paths.{Name, Path, is_within}
use Rattle.volume_rows.specs.Rows.{Row, root, entry_in, entry_at, with_row, rows_within, rows_outside, moved, renamed, names_in}
use Rattle.volume_rows.specs.Rights.{first_of, passes, ancestors, ancestors_from}
use Rattle.name_tree.specs.Trees.{IsTree, IsRising}
use Rattle.volume_tree.specs.Tables.{with_root, IsRooted, volumes_numbered}

below_root : (rows : List Row) (path : Path) → entry_in (with_root rows) path ≡ entry_at rows path
below_root rows [] = refl
below_root rows (name ∷ names) = refl

-- the entry at a path
pub entry_rooted : (top : List Row) (path : Path) → IsRooted top → entry_in top path ≡ entry_at (drop 1 top) path
entry_rooted top path root = ap (λ (list : List Row). entry_in list path) root.rooted ∙ below_root (drop 1 top) path

same_entry : (rows : List Row) (above : Path) (name : Name) → entry_at (with_root rows) (above ++ name ∷ []) ≡ entry_at rows (above ++ name ∷ [])
same_entry rows [] name = refl
same_entry rows (first ∷ above) name = refl

ancestors_below : (who : Asker) (rows : List Row) (above path : Path) → ancestors_from who (with_root rows) above path ≡ ancestors_from who rows above path
ancestors_below who rows above [] = refl
ancestors_below who rows above (name ∷ []) = refl
ancestors_below who rows above (name ∷ next ∷ names) =
    ap (λ (found : Option Entry). first_of (passes who found ∷ ancestors_from who (with_root rows) (above ++ name ∷ []) (next ∷ names) ∷ [])) (same_entry rows above name)
    ∙ ap (λ (later : Option MetaRefusal). first_of (passes who (entry_at rows (above ++ name ∷ [])) ∷ later ∷ [])) (ancestors_below who rows (above ++ name ∷ []) (next ∷ names))

pub ancestors_rooted : (who : Asker) (top : List Row) (path : Path) → IsRooted top → ancestors who top path ≡ ancestors who (drop 1 top) path
ancestors_rooted who top path root = ap (λ (list : List Row). ancestors who list path) root.rooted ∙ ancestors_below who (drop 1 top) [] path

names_below : (rows : List Row) (path : Path) → names_in (with_root rows) path ≡ names_in rows path
names_below rows [] = refl
names_below rows (name ∷ names) = refl

pub names_rooted : (top : List Row) (path : Path) → IsRooted top → names_in top path ≡ names_in (drop 1 top) path
names_rooted top path root = ap (λ (list : List Row). names_in list path) root.rooted ∙ names_below (drop 1 top) path

within_below : (rows : List Row) (path : Path) → rows_within path (with_root rows) ≡ [] → rows_within path rows ≡ []
within_below rows path = go (is_within path []) where
  go : (b : Bool) → cond b (record { path = []; entry = root } ∷ rows_within path rows) (rows_within path rows) ≡ [] → rows_within path rows ≡ []
  go true none = absurd (cc)
  go false none = none

pub within_rooted : (top : List Row) (path : Path) → IsRooted top → rows_within path top ≡ [] → rows_within path (drop 1 top) ≡ []
within_rooted top path root none = within_below (drop 1 top) path (ap (rows_within path) (sym root.rooted) ∙ none)

-- and nothing of the root's is within a path with a name
pub nothing_rooted : (top : List Row) (name : Name) (names : Path) → IsRooted top → rows_within (name ∷ names) (drop 1 top) ≡ [] → rows_within (name ∷ names) top ≡ []
nothing_rooted top name names root none = ap (rows_within (name ∷ names)) root.rooted ∙ none

pub numbers_rooted : (number : ℕ) (top : List Row) → IsRooted top → volumes_numbered number top ≡ volumes_numbered number (drop 1 top)
numbers_rooted number top root = ap (volumes_numbered number) root.rooted

rising_of : (rows : List Row) → IsTree (with_root rows) → IsRising rows
rising_of rows tree = tree.rising

pub rising_rooted : (top : List Row) → IsRooted top → IsRising (drop 1 top)
rising_rooted top root = rising_of (drop 1 top) (subst (λ (list : List Row). IsTree list) root.rooted root.tree)

-- a tree that has the root and these rows below it
pub rooted_with : (later rows : List Row) → later ≡ with_root rows → IsTree later → IsRooted later
rooted_with later rows is tree = record { rooted = is ∙ ap (λ (list : List Row). with_root (drop 1 list)) (sym is); tree = tree }

-- what is put, taken out or moved below the root
pub with_below : (top : List Row) (name : Name) (names : Path) (entry : Entry) → IsRooted top → with_row top (record { path = name ∷ names; entry = entry }) ≡ with_root (with_row (drop 1 top) (record { path = name ∷ names; entry = entry }))
with_below top name names entry root = ap (λ (list : List Row). with_row list (record { path = name ∷ names; entry = entry })) root.rooted

pub outside_below : (top : List Row) (name : Name) (names : Path) → IsRooted top → rows_outside (name ∷ names) top ≡ with_root (rows_outside (name ∷ names) (drop 1 top))
outside_below top name names root = ap (rows_outside (name ∷ names)) root.rooted

pub within_named : (top : List Row) (name : Name) (names : Path) → IsRooted top → rows_within (name ∷ names) top ≡ rows_within (name ∷ names) (drop 1 top)
within_named top name names root = ap (rows_within (name ∷ names)) root.rooted

fold_root : (from : Path) (name : Name) (names : Path) (rows rest : List Row) → fold with_row (with_root rest) (map (moved from (name ∷ names)) rows) ≡ with_root (fold with_row rest (map (moved from (name ∷ names)) rows))
fold_root from name names [] rest = refl
fold_root from name names (r ∷ rs) rest = fold_root from name names rs (with_row rest (moved from (name ∷ names) r))

renamed_root : (rows : List Row) (first : Name) (rest : Path) (name : Name) (names : Path) → renamed (with_root rows) (first ∷ rest) (name ∷ names) ≡ with_root (renamed rows (first ∷ rest) (name ∷ names))
renamed_root rows first rest name names = fold_root (first ∷ rest) name names (rows_within (first ∷ rest) rows) (rows_outside (first ∷ rest) rows)

pub renamed_below : (top : List Row) (first : Name) (rest : Path) (name : Name) (names : Path) → IsRooted top → renamed top (first ∷ rest) (name ∷ names) ≡ with_root (renamed (drop 1 top) (first ∷ rest) (name ∷ names))
renamed_below top first rest name names root = ap (λ (list : List Row). renamed list (first ∷ rest) (name ∷ names)) root.rooted ∙ renamed_root (drop 1 top) first rest name names
