-- what is the same of rows whether their files have their sizes or not
use Rattle.std.proofs.Common.{◌≡◌, ◌∙◌, List, [], ◌∷◌, ◌++◌, map, refl, ap, Bool, true, false, cond}
use Rattle.std.specs.Prelude.{Option, Some, None, filter, fold, not}
use Rattle.std.specs.Ordering.{is_lt}
use Rattle.std.specs.List.{cons_option}
use Rattle.std.specs.Option.{option_map}
use Rattle.xt_messages.specs.declared.meta.MetaRefusal.{MetaRefusal}
use Rattle.xt_messages.specs.declared.meta.MetaRefusal.TheVariants as refusal
use Rattle.volume_rows.specs.declared.Asker.{Asker}
use Rattle.volume_rows.specs.declared.Entry.{Entry}
use Rattle.volume_rows.specs.declared.Content.{Content}
use Rattle.volume_rows.specs.declared.Content.TheVariants as content
use Rattle.volume_rows.specs.Paths.{Path, same_path, path_cmp, is_within, name_in}
use Rattle.volume_rows.specs.Rows.{Row, entry_in, entry_at, with_row, rows_within, rows_outside, moved, renamed, names_in}
use Rattle.volume_rows.specs.Rights.{first_of, unless, passes, allows, searching, rule_of_search, ancestors_from, is_directory}
use Rattle.volume_tree.specs.Tables.{Kept, content_sized, entry_sized, row_sized}

-- rows, each file with its sizes
abbrev pub all_sized : Kept → List Row → List Row
all_sized kept rows = map (row_sized kept) rows

pub entry_framed : (kept : Kept) (rows : List Row) (path : Path) → entry_in (all_sized kept rows) path ≡ option_map (entry_sized kept) (entry_in rows path)
entry_framed kept [] path = refl
entry_framed kept (r ∷ rs) path = go (same_path r.path path) (entry_framed kept rs path) where
  go : (b : Bool) → entry_in (all_sized kept rs) path ≡ option_map (entry_sized kept) (entry_in rs path) → cond b (Some (entry_sized kept r.entry)) (entry_in (all_sized kept rs) path) ≡ option_map (entry_sized kept) (cond b (Some r.entry) (entry_in rs path))
  go true later = refl
  go false later = later

pub entry_at_framed : (kept : Kept) (rows : List Row) (path : Path) → entry_at (all_sized kept rows) path ≡ option_map (entry_sized kept) (entry_at rows path)
entry_at_framed kept rows [] = refl
entry_at_framed kept rows (name ∷ names) = entry_framed kept rows (name ∷ names)

pub directory_framed : (kept : Kept) (what : Content) → is_directory (content_sized kept what) ≡ is_directory what
directory_framed kept content.Directory = refl
directory_framed kept (content.File stored) = refl

passes_framed : (who : Asker) (kept : Kept) (entry : Option Entry) → passes who (option_map (entry_sized kept) entry) ≡ passes who entry
passes_framed who kept None = refl
passes_framed who kept (Some entry) =
    ap (λ (b : Bool). first_of (unless b refusal.NotDir ∷ unless (allows who searching entry) rule_of_search ∷ [])) (directory_framed kept entry.content)

pub ancestors_framed : (who : Asker) (kept : Kept) (rows : List Row) (above path : Path) → ancestors_from who (all_sized kept rows) above path ≡ ancestors_from who rows above path
ancestors_framed who kept rows above [] = refl
ancestors_framed who kept rows above (name ∷ []) = refl
ancestors_framed who kept rows above (name ∷ next ∷ names) =
    ap (λ (why : Option MetaRefusal). first_of (why ∷ ancestors_from who (all_sized kept rows) (above ++ name ∷ []) (next ∷ names) ∷ []))
    (ap (passes who) (entry_at_framed kept rows (above ++ name ∷ [])) ∙ passes_framed who kept (entry_at rows (above ++ name ∷ [])))
    ∙ ap (λ (later : Option MetaRefusal). first_of (passes who (entry_at rows (above ++ name ∷ [])) ∷ later ∷ [])) (ancestors_framed who kept rows (above ++ name ∷ []) (next ∷ names))

pub names_framed : (kept : Kept) (rows : List Row) (path : Path) → names_in (all_sized kept rows) path ≡ names_in rows path
names_framed kept [] path = refl
names_framed kept (r ∷ rs) path = ap (cons_option (name_in path r.path)) (names_framed kept rs path)

pub with_framed : (kept : Kept) (rows : List Row) (row : Row) → with_row (all_sized kept rows) (row_sized kept row) ≡ all_sized kept (with_row rows row)
with_framed kept [] row = refl
with_framed kept (r ∷ rs) row = go (same_path r.path row.path) (is_lt (path_cmp row.path r.path)) (with_framed kept rs row) where
  go : (a b : Bool) → with_row (all_sized kept rs) (row_sized kept row) ≡ all_sized kept (with_row rs row)
      → cond a (row_sized kept row ∷ all_sized kept rs) (cond b (row_sized kept row ∷ row_sized kept r ∷ all_sized kept rs) (row_sized kept r ∷ with_row (all_sized kept rs) (row_sized kept row)))
      ≡ all_sized kept (cond a (row ∷ rs) (cond b (row ∷ r ∷ rs) (r ∷ with_row rs row)))
  go true b later = refl
  go false true later = refl
  go false false later = ap (λ (list : List Row). row_sized kept r ∷ list) later

pub filter_framed : (kept : Kept) (keep : Path → Bool) (rows : List Row) → filter (λ r. keep r.path) (all_sized kept rows) ≡ all_sized kept (filter (λ r. keep r.path) rows)
filter_framed kept keep [] = refl
filter_framed kept keep (r ∷ rs) = go (keep r.path) (filter_framed kept keep rs) where
  go : (b : Bool) → filter (λ s. keep s.path) (all_sized kept rs) ≡ all_sized kept (filter (λ s. keep s.path) rs) → cond b (row_sized kept r ∷ filter (λ s. keep s.path) (all_sized kept rs)) (filter (λ s. keep s.path) (all_sized kept rs)) ≡ all_sized kept (cond b (r ∷ filter (λ s. keep s.path) rs) (filter (λ s. keep s.path) rs))
  go true later = ap (λ (list : List Row). row_sized kept r ∷ list) later
  go false later = later

moved_framed : (kept : Kept) (from to : Path) (rows : List Row) → map (moved from to) (all_sized kept rows) ≡ all_sized kept (map (moved from to) rows)
moved_framed kept from to [] = refl
moved_framed kept from to (r ∷ rs) = ap (λ (list : List Row). row_sized kept (moved from to r) ∷ list) (moved_framed kept from to rs)

fold_framed : (kept : Kept) (rows out : List Row) → fold with_row (all_sized kept out) (all_sized kept rows) ≡ all_sized kept (fold with_row out rows)
fold_framed kept [] out = refl
fold_framed kept (r ∷ rs) out = ap (λ (list : List Row). fold with_row list (all_sized kept rs)) (with_framed kept out r) ∙ fold_framed kept rs (with_row out r)

pub renamed_framed : (kept : Kept) (rows : List Row) (from to : Path) → renamed (all_sized kept rows) from to ≡ all_sized kept (renamed rows from to)
renamed_framed kept rows from to =
    ap (λ (list : List Row). fold with_row list (map (moved from to) (rows_within from (all_sized kept rows)))) (filter_framed kept (λ p. not (is_within from p)) rows)
    ∙ ap (λ (list : List Row). fold with_row (all_sized kept (rows_outside from rows)) (map (moved from to) list)) (filter_framed kept (is_within from) rows)
    ∙ ap (fold with_row (all_sized kept (rows_outside from rows))) (moved_framed kept from to (rows_within from rows))
    ∙ fold_framed kept (map (moved from to) (rows_within from rows)) (rows_outside from rows)
