-- volumes as a flat list of rows
use Rattle.std.specs.Prelude.{ℕ, not, if◌then◌else◌, Option, Some, None, List, [], ◌∷◌, ◌++◌, length, take, drop, map, filter, filter_map, fold}
use Rattle.std.specs.Ordering.{nat_cmp, is_lt}
use Rattle.std.specs.Cmp.Lexicographic.{slice_cmp}
use Rattle.xt_base.specs.declared.ids.SizeMark.{SizeMark}
use Rattle.volume_rows.specs.declared.Entry.{Entry}
use Rattle.volume_rows.specs.declared.Content.{Content}
use Rattle.volume_rows.specs.declared.Content.TheVariants as content
use Rattle.volume_rows.specs.Paths.{Name, Path, same_path, path_cmp, is_within, name_in}

-- what stands at a path
pub record Row : Type 0 where
  pub path : Path
  pub entry : Entry

-- all volumes: a row for each directory and file, rising by path; and the number that the next file gets
pub record Volumes : Type 0 where
  pub rows : List Row
  pub next : ℕ

-- file numbers begin here
abbrev pub no_volumes : Volumes
no_volumes = record { rows = []; next = 1000000 }

-- the entry at a path: that of the first row with it
abbrev pub entry_in : List Row → Path → Option Entry
entry_in [] path = None
entry_in (r ∷ rs) path = if same_path r.path path then Some r.entry else entry_in rs path

-- the root is nobody's, and everybody may do all in it
abbrev pub root : Entry
root = record { owner = 0; group = 0; mode = 511; content = content.Directory }

-- the entry at a path, the root's too
abbrev pub entry_at : List Row → Path → Option Entry
entry_at rows [] = Some root
entry_at rows (name ∷ names) = entry_in rows (name ∷ names)

-- the rows with this one in its place
abbrev pub with_row : List Row → Row → List Row
with_row [] row = row ∷ []
with_row (r ∷ rs) row =
    if same_path r.path row.path then row ∷ rs
    else if is_lt (path_cmp row.path r.path) then row ∷ r ∷ rs
    else r ∷ with_row rs row

-- the rows without that at a path
abbrev pub without_row : List Row → Path → List Row
without_row rows path = filter (λ r. not (same_path r.path path)) rows

-- the rows at or below a path, and all others
abbrev pub rows_within : Path → List Row → List Row
rows_within path rows = filter (λ r. is_within path r.path) rows

abbrev pub rows_outside : Path → List Row → List Row
rows_outside path rows = filter (λ r. not (is_within path r.path)) rows

-- the row at or below one path as it stands at or below another
abbrev pub moved : Path → Path → Row → Row
moved from to row = record { path = to ++ drop (length from) row.path; entry = row.entry }

-- A rename: the rows at or below the source have the target's names in place of the source's, each in its new place.
abbrev pub renamed : List Row → Path → Path → List Row
renamed rows from to =
    fold with_row (rows_outside from rows) (map (moved from to) (rows_within from rows))

-- the names right in a directory, in order
abbrev pub names_in : List Row → Path → List Name
names_in rows path = filter_map (λ r. name_in path r.path) rows

-- a page of them: the first 512 above a name
abbrev pub page_of : List Row → Path → Name → List Name
page_of rows path after = take 512 (filter (λ name. is_lt (slice_cmp nat_cmp after name)) (names_in rows path))

-- the mark that is reported of an entry: a directory has none
abbrev pub mark_of : Content → SizeMark
mark_of content.Directory = record { epoch = 0; size = 0 }
mark_of (content.File stored) = stored.mark
