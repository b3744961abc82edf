-- a tree of names as a flat list of rows, each with its path from the tree's top
use Rattle.std.specs.Prelude.{◌≡◌, ℕ, Bool, true, false, Option, Some, None, List, [], ◌∷◌, ◌++◌, map, fold, length, String, ◌+◌, ◌≤◌}
use Rattle.std.specs.List.{AllByRecursion}
use Rattle.std.specs.List.Sorted.{IsStrictlySortedBy}
use Rattle.std.specs.Map.{keys_of}
use Rattle.std.specs.Ordering.{nat_cmp}
use Rattle.std.specs.Cmp.Lexicographic.{slice_cmp}
use Rattle.std.specs.declared.cmp.Ordering.TheVariants.{Less}
use Rattle.std.proofs.Common.{arith, length-append}
use Rattle.std.proofs.lemmas.List.{length-map}
use denote.Param.Weighed.{most}
use Rattle.std.specs.String.{string_bytes}
use Rattle.volume_rows.specs.declared.Entry.{Entry}
use Rattle.volume_rows.specs.Paths.{Name, Path, path_cmp, parent_of}
use Rattle.volume_rows.specs.Rows.{Row, entry_in, with_row, rows_within, rows_outside, moved, names_in}
use Rattle.volume_rows.specs.Rights.{is_directory}

-- a row below a name
abbrev pub below : Name → Row → Row
below name row = record { path = name ∷ row.path; entry = row.entry }

-- the rows of what is in a directory, under each name in order
abbrev pub inside : {A : Type 0} → List (String A × List Row) → List Row
inside [] = []
inside (kid ∷ kids) = map (below (string_bytes kid.0)) kid.1 ++ inside kids

-- an entry, and then what is in it
abbrev pub flat : {A : Type 0} → Entry → List (String A × List Row) → List Row
flat entry kids = record { path = []; entry = entry } ∷ inside kids

-- the path of a tree's top
abbrev pub is_top : Path → Bool
is_top [] = true
is_top (name ∷ names) = false

-- rows rise by their paths
abbrev pub IsRising : List Row → Type 0
IsRising [] = Unit {0}
IsRising (r ∷ rs) = AllByRecursion (λ s. path_cmp r.path s.path ≡ Less) rs × IsRising rs

-- A tree's list: the row of its top, and after it the rows below, rising. Below a file is nothing, and where no name is right
-- in the top, nothing is below it.
pub record HasTop (top : Row) (rest : List Row) : Type 0 where
  pub at_top : top.path ≡ []
  pub below : AllByRecursion (λ r. is_top r.path ≡ false) rest
  pub rising : IsRising rest
  pub leaf : is_directory top.entry.content ≡ false → rest ≡ []
  pub bare : names_in rest [] ≡ [] → rest ≡ []

abbrev pub IsTree : List Row → Type 0
IsTree [] = ⊥
IsTree (top ∷ rest) = HasTop top rest

-- what is kept of an entry and what is in it: the names are in order, a tree is under each, and a file has none
pub record IsSound {A : Type 0} (entry : Entry) (kids : List (String A × List Row)) : Type 0 where
  pub ordered : IsStrictlySortedBy (λ a b. slice_cmp nat_cmp (string_bytes a) (string_bytes b)) (keys_of kids)
  pub trees : AllByRecursion (λ kid. IsTree kid.1) kids
  pub leaf : is_directory entry.content ≡ false → kids ≡ []

-- a directory is there
abbrev pub IsDirectory : Option Entry → Type 0
IsDirectory None = ⊥
IsDirectory (Some entry) = is_directory entry.content ≡ true

-- the directory of a path is there
abbrev pub HasPlace : List Row → Path → Type 0
HasPlace rows [] = Unit {0}
HasPlace rows (name ∷ names) = IsDirectory (entry_in rows (parent_of (name ∷ names)))

-- what replaces an entry is a directory where that is one
abbrev pub SameKind : Option Entry → Entry → Type 0
SameKind None entry = Unit {0}
SameKind (Some old) entry = is_directory old.content ≡ is_directory entry.content

-- the rows of a subtree that was taken from a path, where they stood
abbrev pub under : Path → Row → Row
under path row = record { path = path ++ row.path; entry = row.entry }

abbrev pub rows_under : Path → Option (List Row) → List Row
rows_under path None = []
rows_under path (Some rows) = map (under path) rows

-- the rows with those of a tree in the place of what is at or below a path
abbrev pub grafted : List Row → Path → List Row → List Row
grafted rows path tree = fold with_row (rows_outside path rows) (map (under path) tree)

-- what was at or below a path is now at or below another one, and all other rows stay
pub record IsMoved (old new : List Row) (from to : Path) : Type 0 where
  pub outside : rows_outside to new ≡ rows_outside from old
  pub within : rows_within to new ≡ map (moved from to) (rows_within from old)

-- how many rows trees have together
abbrev pub rows_in : List (List Row) → ℕ
rows_in [] = 0
rows_in (tree ∷ trees) = length tree + rows_in trees

-- no subtree has more rows than all of them together
pub most_le-length-inside : {A : Type 0} (kids : List (String A × List Row)) → most (λ k. length k + 1) (map (λ kid. kid.1) kids) ≤ length (inside kids) + 1
most_le-length-inside [] = omega arith
most_le-length-inside (kid ∷ kids) =
    let later = most_le-length-inside kids in
    let first = length-map kid.1 (below (string_bytes kid.0)) in
    let both = length-append (map (below (string_bytes kid.0)) kid.1) (inside kids) in
    omega (arith, later, first, both)
