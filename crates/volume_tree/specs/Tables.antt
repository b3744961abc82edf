-- volumes as a tree of names, and the sizes of the files in it by their numbers
use Rattle.std.specs.Prelude.{ℕ, ◌≡◌, ◌≤◌, ◌==◌, ◌+◌, true, if◌then◌else◌, Option, Some, None, List, [], ◌∷◌, map, filter_map, drop}
use Rattle.std.specs.BTreeMap.{BTreeMap, get}
use Rattle.std.specs.Ordering.{nat_cmp}
use Rattle.xt_messages.specs.declared.file.Location.{Location}
use Rattle.volume_rows.specs.declared.Asker.{Asker}
use Rattle.volume_rows.specs.declared.Entry.{Entry}
use Rattle.volume_rows.specs.declared.Stored.{Stored}
use Rattle.volume_rows.specs.declared.Content.{Content}
use Rattle.volume_rows.specs.declared.Content.TheVariants as content
use Rattle.volume_tree.specs.declared.table.Sizes.{Sizes}
use Rattle.volume_rows.specs.Paths.{Path}
use Rattle.volume_rows.specs.Rows.{Row, Volumes, root, with_row}
use Rattle.volume_rows.specs.Rights.{is_directory}
use Rattle.volume_rows.specs.Requests.{made, new_file}
use Rattle.volume_rows.specs.Grants.{volume_of, stored_of}
use Rattle.name_tree.specs.Trees.{IsTree}

-- the sizes that are kept of a file, by its number
abbrev pub Kept : Type 0
Kept = ℕ → Option Sizes

abbrev pub kept_in : BTreeMap ℕ Sizes → Kept
kept_in sizes = λ number. get nat_cmp sizes number

-- a file has the sizes that are kept of it
abbrev pub stored_sized : Option Sizes → Stored → Stored
stored_sized None stored = stored
stored_sized (Some sizes) stored = record stored { epoch = sizes.epoch; mark = sizes.mark }

abbrev pub content_sized : Kept → Content → Content
content_sized kept content.Directory = content.Directory
content_sized kept (content.File stored) = content.File (stored_sized (kept stored.number) stored)

abbrev pub entry_sized : Kept → Entry → Entry
entry_sized kept entry = record entry { content = content_sized kept entry.content }

abbrev pub row_sized : Kept → Row → Row
row_sized kept row = record { path = row.path; entry = entry_sized kept row.entry }

-- the rows of a tree below its top, each file with its sizes
abbrev pub volumes_in : List Row → Kept → ℕ → Volumes
volumes_in top kept next = record { rows = map (row_sized kept) (drop 1 top); next = next }

-- the volume of a row, if it is that of a file with this number
abbrev pub volume_if : ℕ → Path → Option Stored → Option (List ℕ)
volume_if number path None = None
volume_if number path (Some stored) = if stored.number == number then Some (volume_of path) else None

abbrev pub volume_numbered : ℕ → Row → Option (List ℕ)
volume_numbered number row = volume_if number row.path (stored_of row.entry.content)

-- the volumes of all files with this number
abbrev pub volumes_numbered : ℕ → List Row → List (List ℕ)
volumes_numbered number rows = filter_map (volume_numbered number) rows

abbrev pub volume_kept : Option Sizes → List (List ℕ)
volume_kept None = []
volume_kept (Some sizes) = sizes.volume ∷ []

-- Sizes are kept of each file, with its volume, and of no other. So no two files have one number, and none has the next one.
pub record HasSizes (rows : List Row) (kept : Kept) (next : ℕ) : Type 0 where
  pub of_files : (number : ℕ) → volumes_numbered number rows ≡ volume_kept (kept number)
  pub below_next : (number : ℕ) → next ≤ number → kept number ≡ None

-- the rows of all volumes below the root's
abbrev pub with_root : List Row → List Row
with_root rows = record { path = []; entry = root } ∷ rows

-- a tree whose top is the root
pub record IsRooted (top : List Row) : Type 0 where
  pub rooted : top ≡ with_root (drop 1 top)
  pub tree : IsTree top

-- such a tree with the sizes of its files
pub record IsTable (top : List Row) (kept : Kept) (next : ℕ) : Type 0 where
  pub root : IsRooted top
  pub sizes : HasSizes (drop 1 top) kept next

-- what replaces an entry has its content, and what is new has none
abbrev pub SameContent : Option Entry → Entry → Type 0
SameContent None entry = entry.content ≡ content.Directory
SameContent (Some old) entry = entry.content ≡ old.content

-- nothing is below what is at a path: it is a file, or no name is right in it
abbrev pub HasNothing : Option Entry → List (List ℕ) → Type 0
HasNothing None names = names ≡ []
HasNothing (Some entry) names = is_directory entry.content ≡ true → names ≡ []

-- with one more file
abbrev pub file_added : Volumes → Asker → ℕ → Location → Path → Volumes
file_added volumes who mode location path =
    record { rows = with_row volumes.rows (made who mode (new_file volumes.next location) path); next = volumes.next + 1 }
