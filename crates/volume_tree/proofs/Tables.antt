-- what the calls of a table come to
use Rattle.std.proofs.Common.{◌≡◌, ◌∙◌, ℕ, ◌<◌, ◌≤◌, ◌+◌, List, [], ◌∷◌, ◌++◌, map, drop, length, refl, sym, ap, subst, arith, Bool, true, false, cond, append-nil, Bor}
use Rattle.std.specs.Prelude.{◌==◌, not, Option, Some, None, IsSome, is_some, IfSome, Result, Ok, Err, OnOk, OnErr}
use Rattle.std.specs.Str.{bytes_eq}
use Rattle.std.specs.List.{AllByRecursion, cons_option}
use Rattle.std.specs.Option.{option_map}
use Rattle.std.proofs.lemmas.Bool.Decides.{Decides-eqb, nat_tests}
use Rattle.std.proofs.lemmas.Slice.Eq.{bytes_eq-Decides}
use Rattle.xt_messages.specs.declared.file.Location.{Location}
use Rattle.xt_base.specs.declared.ids.FileId.{FileId}
use Rattle.xt_base.specs.declared.ids.SizeMark.{SizeMark}
use Rattle.xt_messages.specs.declared.meta.MetaRefusal.{MetaRefusal}
use Rattle.volume_rows.specs.declared.Asker.{Asker}
use Rattle.volume_rows.specs.declared.Entry.{Entry}
use Rattle.volume_rows.specs.declared.Stored.{Stored}
use Rattle.volume_rows.specs.declared.Content.{Content}
use Rattle.volume_rows.specs.declared.Content.TheVariants as content
use Rattle.volume_rows.specs.Paths.{Name, Path, same_path, is_within, parent_of}
use Rattle.volume_rows.specs.Rows.{Row, Volumes, root, entry_in, entry_at, with_row, without_row, rows_within, rows_outside, renamed, names_in}
use Rattle.volume_rows.specs.Rights.{ancestors, same_volume, is_directory}
use Rattle.volume_rows.specs.Requests.{new_file}
use Rattle.volume_rows.specs.Grants.{volume_of, stored_of, sizes_in, sizes_set}
use Rattle.name_tree.specs.Trees.{IsTree, IsDirectory, HasPlace, SameKind, IsMoved, under, rows_under}
use Rattle.volume_tree.specs.declared.table.Sizes.{Sizes}
use Rattle.volume_tree.specs.Tables.{Kept, stored_sized, content_sized, entry_sized, volumes_in, volume_if, volumes_numbered, volume_kept, HasSizes, with_root, IsRooted, IsTable, SameContent, HasNothing, file_added}
use Rattle.volume_tree.proofs.Framing.{all_sized, entry_at_framed, directory_framed, ancestors_framed, names_framed, with_framed, filter_framed, renamed_framed}
use Rattle.volume_tree.proofs.Numbers.{Changes, changed_other, changed_here, volume_sized, content_twice, volume_at, numbers_put, numbers_added, sized_alike, numbers_parted, numbers_outside, no_length, numbers_renamed}
use Rattle.volume_tree.proofs.Removing.{taken_out, bare}
use Rattle.volume_tree.proofs.Rooted.{entry_rooted, ancestors_rooted, names_rooted, within_rooted, nothing_rooted, numbers_rooted, rising_rooted, rooted_with, with_below, outside_below, within_named, renamed_below}
use Rattle.volume_tree.proofs.Sizing.{sizes_none, sizes_one, sizes_put}

-- the entry that is found, with its sizes
pub entry_found : (top : List Row) (kept : Kept) (next : ℕ) (volumes : Volumes) (path : Path) (found : Option Entry) → volumes_in top kept next ≡ volumes → IsTable top kept next → found ≡ entry_in top path → option_map (entry_sized kept) found ≡ entry_at volumes.rows path
entry_found top kept next volumes path found view table is =
    ap (option_map (entry_sized kept)) (is ∙ entry_rooted top path table.root) ∙ sym (entry_at_framed kept (drop 1 top) path) ∙ ap (λ (v : Volumes). entry_at v.rows path) view

pub some_found : (top : List Row) (kept : Kept) (next : ℕ) (volumes : Volumes) (path : Path) (entry got : Entry) → volumes_in top kept next ≡ volumes → IsTable top kept next → Some entry ≡ entry_in top path → got ≡ entry_sized kept entry → Some got ≡ entry_at volumes.rows path
some_found top kept next volumes path entry got view table is sized = ap (λ (e : Entry). Some e) sized ∙ entry_found top kept next volumes path (Some entry) view table is

pub nothing_found : (top : List Row) (kept : Kept) (next : ℕ) (volumes : Volumes) (path : Path) → volumes_in top kept next ≡ volumes → IsTable top kept next → rows_within path top ≡ [] → rows_within path volumes.rows ≡ []
nothing_found top kept next volumes path view table none =
    ap (λ (v : Volumes). rows_within path v.rows) (sym view) ∙ filter_framed kept (is_within path) (drop 1 top) ∙ ap (all_sized kept) (within_rooted top path table.root none)

pub ancestors_found : (who : Asker) (top : List Row) (kept : Kept) (next : ℕ) (volumes : Volumes) (path : Path) (why : Option MetaRefusal) → volumes_in top kept next ≡ volumes → IsTable top kept next → why ≡ ancestors who top path → why ≡ ancestors who volumes.rows path
ancestors_found who top kept next volumes path why view table is =
    is ∙ ancestors_rooted who top path table.root ∙ sym (ancestors_framed who kept (drop 1 top) [] path) ∙ ap (λ (v : Volumes). ancestors who v.rows path) view

pub names_found : (top : List Row) (kept : Kept) (next : ℕ) (volumes : Volumes) (path : Path) → volumes_in top kept next ≡ volumes → IsTable top kept next → names_in top path ≡ names_in volumes.rows path
names_found top kept next volumes path view table =
    names_rooted top path table.root ∙ sym (names_framed kept (drop 1 top) path) ∙ ap (λ (v : Volumes). names_in v.rows path) view

-- the directory of a path is there in the tree too
pub place_tabled : (top : List Row) (kept : Kept) (next : ℕ) (volumes : Volumes) (path : Path) → volumes_in top kept next ≡ volumes → IsTable top kept next → IsDirectory (entry_at volumes.rows (parent_of path)) → HasPlace top path
place_tabled top kept next volumes [] view table there = tt
place_tabled top kept next volumes (name ∷ names) view table there =
    unsized (entry_in top (parent_of (name ∷ names))) (subst (λ (o : Option Entry). IsDirectory o) (sym (entry_found top kept next volumes (parent_of (name ∷ names)) (entry_in top (parent_of (name ∷ names))) view table refl)) there) where
      unsized : (o : Option Entry) → IsDirectory (option_map (entry_sized kept) o) → IsDirectory o
      unsized None there = there
      unsized (Some entry) there = sym (directory_framed kept entry.content) ∙ there

same_kind : (kept : Kept) (o : Option Entry) (entry : Entry) → SameContent (option_map (entry_sized kept) o) entry → SameKind o entry
same_kind kept None entry same = tt
same_kind kept (Some old) entry same = sym (directory_framed kept old.content) ∙ ap is_directory (sym same)

same_sized : (kept : Kept) (o : Option Entry) (entry : Entry) → SameContent (option_map (entry_sized kept) o) entry → content_sized kept entry.content ≡ entry.content
same_sized kept None entry same = ap (content_sized kept) same ∙ sym same
same_sized kept (Some old) entry same = ap (content_sized kept) same ∙ content_twice kept old.content ∙ sym same

same_number : (number : ℕ) (path : Path) (kept : Kept) (o : Option Entry) (entry : Entry) → SameContent (option_map (entry_sized kept) o) entry → volume_if number path (stored_of entry.content) ≡ volume_at number path o
same_number number path kept None entry same = ap (λ (what : Content). volume_if number path (stored_of what)) same
same_number number path kept (Some old) entry same = ap (λ (what : Content). volume_if number path (stored_of what)) same ∙ volume_sized number path kept old.content

-- what is known of the entry at a path, of the tree's
content_at : (top : List Row) (kept : Kept) (next : ℕ) (volumes : Volumes) (path : Path) (entry : Entry) → volumes_in top kept next ≡ volumes → IsTable top kept next → SameContent (entry_at volumes.rows path) entry → SameContent (option_map (entry_sized kept) (entry_in top path)) entry
content_at top kept next volumes path entry view table same =
    subst (λ (o : Option Entry). SameContent o entry) (sym (entry_found top kept next volumes path (entry_in top path) view table refl)) same

pub kind_tabled : (top : List Row) (kept : Kept) (next : ℕ) (volumes : Volumes) (path : Path) (entry : Entry) → volumes_in top kept next ≡ volumes → IsTable top kept next → SameContent (entry_at volumes.rows path) entry → SameKind (entry_in top path) entry
kind_tabled top kept next volumes path entry view table same = same_kind kept (entry_in top path) entry (content_at top kept next volumes path entry view table same)

-- put: the table and its rows
put_below : (top later : List Row) (name : Name) (names : Path) (entry : Entry) → IsRooted top → later ≡ with_row top (record { path = name ∷ names; entry = entry }) → later ≡ with_root (with_row (drop 1 top) (record { path = name ∷ names; entry = entry }))
put_below top later name names entry root is = is ∙ with_below top name names entry root

pub put_tabled : (top later : List Row) (kept : Kept) (next : ℕ) (volumes : Volumes) (names : List (Bor (List ℕ))) (entry : Entry) → volumes_in top kept next ≡ volumes → IsTable top kept next → 0 < length names → SameContent (entry_at volumes.rows (map (λ name. name.now) names)) entry → later ≡ with_row top (record { path = map (λ name. name.now) names; entry = entry }) → IsTree later → IsTable later kept next
put_tabled top later kept next volumes [] entry view table some same put tree = absurd (omega arith)
put_tabled top later kept next volumes (name ∷ names) entry view table some same put tree =
    let rest : Path = map (λ name. name.now) names in
    let row : Row = record { path = name.now ∷ rest; entry = entry } in
    let is = put_below top later name.now rest entry table.root put in
    let content = content_at top kept next volumes (name.now ∷ rest) entry view table same in
    record {
      root = rooted_with later (with_row (drop 1 top) row) is tree;
      sizes = record {
        of_files = λ number.
            ap (λ (list : List Row). volumes_numbered number (drop 1 list)) is
            ∙ numbers_put number row (drop 1 top) (rising_rooted top table.root)
            (same_number number (name.now ∷ rest) kept (entry_in top (name.now ∷ rest)) entry content ∙ ap (volume_at number (name.now ∷ rest)) (entry_rooted top (name.now ∷ rest) table.root))
            ∙ table.sizes.of_files number;
        below_next = table.sizes.below_next;
      };
    }

-- rows and the next number as volumes
abbrev volumes_with : ℕ → List Row → Volumes
volumes_with next rows = record { rows = rows; next = next }

pub put_viewed : (top later : List Row) (kept : Kept) (next : ℕ) (volumes : Volumes) (names : List (Bor (List ℕ))) (entry : Entry) → volumes_in top kept next ≡ volumes → IsTable top kept next → 0 < length names → SameContent (entry_at volumes.rows (map (λ name. name.now) names)) entry → later ≡ with_row top (record { path = map (λ name. name.now) names; entry = entry }) → volumes_in later kept next ≡ record volumes { rows = with_row volumes.rows (record { path = map (λ name. name.now) names; entry = entry }) }
put_viewed top later kept next volumes [] entry view table some same put = absurd (omega arith)
put_viewed top later kept next volumes (name ∷ names) entry view table some same put =
    let rest : Path = map (λ name. name.now) names in
    let row : Row = record { path = name.now ∷ rest; entry = entry } in
    let content = content_at top kept next volumes (name.now ∷ rest) entry view table same in
    ap (λ (list : List Row). volumes_with next (all_sized kept (drop 1 list))) (put_below top later name.now rest entry table.root put)
    ∙ ap (volumes_with next) (sym (with_framed kept (drop 1 top) row))
    ∙ ap (λ (what : Content). volumes_with next (with_row (all_sized kept (drop 1 top)) (record { path = name.now ∷ rest; entry = record entry { content = what } }))) (same_sized kept (entry_in top (name.now ∷ rest)) entry content)
    ∙ ap (λ (v : Volumes). record v { rows = with_row v.rows row }) view

-- nothing is at a path of the tree where nothing is at it
none_sized : (kept : Kept) (o : Option Entry) → option_map (entry_sized kept) o ≡ None → o ≡ None
none_sized kept None none = refl
none_sized kept (Some entry) none = absurd (cc)

free_at : (top : List Row) (kept : Kept) (next : ℕ) (volumes : Volumes) (path : Path) → volumes_in top kept next ≡ volumes → IsTable top kept next → entry_at volumes.rows path ≡ None → entry_in top path ≡ None
free_at top kept next volumes path view table free = none_sized kept (entry_in top path) (entry_found top kept next volumes path (entry_in top path) view table refl ∙ free)

pub free_kind : (top : List Row) (kept : Kept) (next : ℕ) (volumes : Volumes) (path : Path) (entry : Entry) → volumes_in top kept next ≡ volumes → IsTable top kept next → entry_at volumes.rows path ≡ None → SameKind (entry_in top path) entry
free_kind top kept next volumes path entry view table free = subst (λ (o : Option Entry). SameKind o entry) (sym (free_at top kept next volumes path view table free)) tt

flip_eq : (a b : ℕ) → (a == b) ≡ (b == a)
flip_eq a b = grind (arith, nat_tests)

-- the entry of a new file, and what is kept of it
abbrev pub file_entry : Asker → ℕ → ℕ → Location → Entry
file_entry who mode number location = record { owner = who.user; group = who.group; mode = mode; content = new_file number location }

abbrev pub first_sizes : List ℕ → Sizes
first_sizes volume = record { volume = volume; epoch = 0; mark = record { epoch = 0; size = 0 } }

pub add_tabled : (top later : List Row) (kept new : Kept) (next : ℕ) (volumes : Volumes) (names : List (Bor (List ℕ))) (who : Asker) (mode : ℕ) (location : Location) → volumes_in top kept next ≡ volumes → IsTable top kept next → 0 < length names → entry_at volumes.rows (map (λ name. name.now) names) ≡ None → Changes next (Some (first_sizes (volume_of (map (λ name. name.now) names)))) kept new → later ≡ with_row top (record { path = map (λ name. name.now) names; entry = file_entry who mode next location }) → IsTree later → IsTable later new (next + 1)
add_tabled top later kept new next volumes [] who mode location view table some free changes put tree = absurd (omega arith)
add_tabled top later kept new next volumes (name ∷ names) who mode location view table some free changes put tree =
    record {
      root = rooted_with later (with_row (drop 1 top) row) is tree;
      sizes = record {
        of_files = λ number. ap (λ (list : List Row). volumes_numbered number (drop 1 list)) is ∙ each number (next == number) refl;
        below_next = λ number later.
            changed_other next first kept new changes number (apart number (number == next) refl later) ∙ table.sizes.below_next number (omega (arith, later));
      };
    } where
      path : Path
      path = name.now ∷ map (λ name. name.now) names

      row : Row
      row = record { path = path; entry = file_entry who mode next location }

      first : Option Sizes
      first = Some (first_sizes (volume_of path))

      is : later ≡ with_root (with_row (drop 1 top) row)
      is = put_below top later name.now (map (λ name. name.now) names) (file_entry who mode next location) table.root put

      none : entry_in (drop 1 top) path ≡ None
      none = sym (entry_rooted top path table.root) ∙ free_at top kept next volumes path view table free

      apart : (number : ℕ) (b : Bool) → (number == next) ≡ b → next + 1 ≤ number → b ≡ false
      apart number true e later = absurd (let same = (Decides-eqb number next).0 e in omega (arith, same, later))
      apart number false e later = refl

      each : (number : ℕ) (b : Bool) → (next == number) ≡ b → volumes_numbered number (with_row (drop 1 top) row) ≡ volume_kept (new number)
      each number true e =
          let same : next ≡ number = (Decides-eqb next number).0 e in
          numbers_added number row (drop 1 top) (volume_of path) (table.sizes.of_files number ∙ ap volume_kept (table.sizes.below_next number (omega (arith, same)))) (ap (λ (b : Bool). cond b (Some (volume_of path)) None) e)
          ∙ ap volume_kept (sym (changed_here next first kept new changes number (flip_eq number next ∙ e)))
      each number false e =
          numbers_put number row (drop 1 top) (rising_rooted top table.root) (ap (λ (b : Bool). cond b (Some (volume_of path)) None) e ∙ sym (ap (volume_at number path) none))
          ∙ table.sizes.of_files number
          ∙ ap volume_kept (sym (changed_other next first kept new changes number (flip_eq number next ∙ e)))

pub add_viewed : (top later : List Row) (kept new : Kept) (next : ℕ) (volumes : Volumes) (names : List (Bor (List ℕ))) (who : Asker) (mode : ℕ) (location : Location) → volumes_in top kept next ≡ volumes → IsTable top kept next → 0 < length names → Changes next (Some (first_sizes (volume_of (map (λ name. name.now) names)))) kept new → later ≡ with_row top (record { path = map (λ name. name.now) names; entry = file_entry who mode next location }) → volumes_in later new (next + 1) ≡ file_added volumes who mode location (map (λ name. name.now) names)
add_viewed top later kept new next volumes [] who mode location view table some changes put = absurd (omega arith)
add_viewed top later kept new next volumes (name ∷ names) who mode location view table some changes put =
    let path : Path = name.now ∷ map (λ name. name.now) names in
    let entry : Entry = file_entry who mode next location in
    let row : Row = record { path = path; entry = entry } in
    let first : Option Sizes = Some (first_sizes (volume_of path)) in
    let stored : Stored = record { number = next; location = location; epoch = 0; mark = record { epoch = 0; size = 0 } } in
    ap (λ (list : List Row). volumes_with (next + 1) (all_sized new (drop 1 list))) (put_below top later name.now (map (λ name. name.now) names) entry table.root put)
    ∙ ap (volumes_with (next + 1)) (sym (with_framed new (drop 1 top) row))
    ∙ ap (λ (o : Option Sizes). volumes_with (next + 1) (with_row (all_sized new (drop 1 top)) (record { path = path; entry = record entry { content = content.File (stored_sized o stored) } }))) (changed_here next first kept new changes next ((Decides-eqb next next).1 refl))
    ∙ ap (λ (list : List Row). volumes_with (next + 1) (with_row list row))
    (sized_alike next kept new (drop 1 top) (changed_other next first kept new changes) (table.sizes.of_files next ∙ ap volume_kept (table.sizes.below_next next (omega arith))))
    ∙ ap (λ (v : Volumes). file_added v who mode location path) view

pub same_tabled : (top later : List Row) (kept last : Kept) (next : ℕ) → IsTable top kept next → later ≡ top → ((q : ℕ) → last q ≡ kept q) → IsTable later last next
same_tabled top later kept last next table is same = subst (λ (list : List Row). IsTable list last next) (sym is) (record {
  root = table.root;
  sizes = record {
    of_files = λ number. table.sizes.of_files number ∙ ap volume_kept (sym (same number));
    below_next = λ number above. same number ∙ table.sizes.below_next number above;
  };
})

-- where nothing is below a path, nothing is in the tree either
nothing_sized : (kept : Kept) (o : Option Entry) (names : List Name) → HasNothing (option_map (entry_sized kept) o) names → HasNothing o names
nothing_sized kept None names none = none
nothing_sized kept (Some entry) names none = λ is. none (directory_framed kept entry.content ∙ is)

nothing_at : (top : List Row) (kept : Kept) (next : ℕ) (volumes : Volumes) (name : Name) (names : Path) → volumes_in top kept next ≡ volumes → IsTable top kept next → HasNothing (entry_at volumes.rows (name ∷ names)) (names_in volumes.rows (name ∷ names)) → HasNothing (entry_in (drop 1 top) (name ∷ names)) (names_in (drop 1 top) (name ∷ names))
nothing_at top kept next volumes name names view table none =
    nothing_sized kept (entry_in (drop 1 top) (name ∷ names)) (names_in (drop 1 top) (name ∷ names))
    (subst (λ (list : List Name). HasNothing (option_map (entry_sized kept) (entry_in (drop 1 top) (name ∷ names))) list) (names_framed kept (drop 1 top) (name ∷ names))
    (subst (λ (o : Option Entry). HasNothing o (names_in (all_sized kept (drop 1 top)) (name ∷ names))) (entry_at_framed kept (drop 1 top) (name ∷ names))
    (subst (λ (v : Volumes). HasNothing (entry_at v.rows (name ∷ names)) (names_in v.rows (name ∷ names))) (sym view) none)))

-- cut: what is left below the root
cut_below : (top later : List Row) (name : Name) (names : Path) → IsRooted top → later ≡ rows_outside (name ∷ names) top → later ≡ with_root (rows_outside (name ∷ names) (drop 1 top))
cut_below top later name names root left = left ∙ outside_below top name names root

pub cut_viewed : (top later : List Row) (kept new : Kept) (next : ℕ) (volumes : Volumes) (names : List (Bor (List ℕ))) (taken : Option (List Row)) → volumes_in top kept next ≡ volumes → IsTable top kept next → 0 < length names → later ≡ rows_outside (map (λ name. name.now) names) top → IfSome taken (λ node. IsTree node) → rows_under (map (λ name. name.now) names) taken ≡ rows_within (map (λ name. name.now) names) top → HasNothing (entry_at volumes.rows (map (λ name. name.now) names)) (names_in volumes.rows (map (λ name. name.now) names)) → all_sized new (drop 1 later) ≡ all_sized kept (drop 1 later) → volumes_in later new next ≡ record volumes { rows = without_row volumes.rows (map (λ name. name.now) names) }
cut_viewed top later kept new next volumes [] taken view table some left tree was nothing same = absurd (omega arith)
cut_viewed top later kept new next volumes (name ∷ names) taken view table some left tree was nothing same =
    let rest : Path = map (λ name. name.now) names in
    let path : Path = name.now ∷ rest in
    ap (volumes_with next) same
    ∙ ap (λ (list : List Row). volumes_with next (all_sized kept (drop 1 list))) (cut_below top later name.now rest table.root left)
    ∙ ap (λ (list : List Row). volumes_with next (all_sized kept list)) (taken_out path (drop 1 top) taken tree (was ∙ within_named top name.now rest table.root) (nothing_at top kept next volumes name.now rest view table nothing))
    ∙ ap (volumes_with next) (sym (filter_framed kept (λ p. not (same_path p path)) (drop 1 top)))
    ∙ ap (λ (v : Volumes). record v { rows = without_row v.rows path }) view

-- the numbers in what was taken: that of its top
numbers_taken : (number : ℕ) (path : Path) (rows node : List Row) (own : Entry) → IsTree node → map (under path) node ≡ rows_within path rows → HasNothing (entry_in rows path) (names_in rows path) → Some own ≡ entry_in node [] → volumes_numbered number (rows_within path rows) ≡ cons_option (volume_if number path (stored_of own.content)) []
numbers_taken number path rows [] own tree taken nothing is = absurd tree
numbers_taken number path rows (top ∷ rest) own tree taken nothing is =
    let alone = bare path top rest rows tree taken nothing in
    let here : Some own ≡ Some top.entry = is ∙ ap (λ (p : Path). cond (same_path p []) (Some top.entry) (entry_in rest [])) tree.at_top in
    let entry : own ≡ top.entry = cc in
    ap (volumes_numbered number) (sym taken ∙ ap (λ (list : List Row). under path top ∷ map (under path) list) alone)
    ∙ ap (λ (p : Path). cons_option (volume_if number p (stored_of top.entry.content)) []) (ap (λ (p : Path). path ++ p) tree.at_top ∙ append-nil path)
    ∙ ap (λ (e : Entry). cons_option (volume_if number path (stored_of e.content)) []) (sym entry)

pub cut_nothing : (top later : List Row) (kept : Kept) (next : ℕ) (names : List (Bor (List ℕ))) → IsTable top kept next → 0 < length names → later ≡ rows_outside (map (λ name. name.now) names) top → IsTree later → rows_under (map (λ name. name.now) names) None ≡ rows_within (map (λ name. name.now) names) top → IsTable later kept next
cut_nothing top later kept next [] table some left tree was = absurd (omega arith)
cut_nothing top later kept next (name ∷ names) table some left tree was =
    let rest : Path = map (λ name. name.now) names in
    let path : Path = name.now ∷ rest in
    let is = cut_below top later name.now rest table.root left in
    record {
      root = rooted_with later (rows_outside path (drop 1 top)) is tree;
      sizes = record {
        of_files = λ number.
            ap (λ (list : List Row). volumes_numbered number (drop 1 list)) is
            ∙ numbers_outside number path (drop 1 top) (ap (volumes_numbered number) (sym (was ∙ within_named top name.now rest table.root)))
            ∙ table.sizes.of_files number;
        below_next = table.sizes.below_next;
      };
    }

pub cut_directory : (top later node : List Row) (kept : Kept) (next : ℕ) (volumes : Volumes) (names : List (Bor (List ℕ))) (own : Entry) → volumes_in top kept next ≡ volumes → IsTable top kept next → 0 < length names → later ≡ rows_outside (map (λ name. name.now) names) top → IsTree later → IsTree node → rows_under (map (λ name. name.now) names) (Some node) ≡ rows_within (map (λ name. name.now) names) top → HasNothing (entry_at volumes.rows (map (λ name. name.now) names)) (names_in volumes.rows (map (λ name. name.now) names)) → Some own ≡ entry_in node [] → own.content ≡ content.Directory → IsTable later kept next
cut_directory top later node kept next volumes [] own view table some left tree node_tree was nothing is what = absurd (omega arith)
cut_directory top later node kept next volumes (name ∷ names) own view table some left tree node_tree was nothing is what =
    let rest : Path = map (λ name. name.now) names in
    let path : Path = name.now ∷ rest in
    let below = cut_below top later name.now rest table.root left in
    record {
      root = rooted_with later (rows_outside path (drop 1 top)) below tree;
      sizes = record {
        of_files = λ number.
            ap (λ (list : List Row). volumes_numbered number (drop 1 list)) below
            ∙ numbers_outside number path (drop 1 top)
            (numbers_taken number path (drop 1 top) node own node_tree (was ∙ within_named top name.now rest table.root) (nothing_at top kept next volumes name.now rest view table nothing) is
            ∙ ap (λ (c : Content). cons_option (volume_if number path (stored_of c)) []) what)
            ∙ table.sizes.of_files number;
        below_next = table.sizes.below_next;
      };
    }

-- at most one volume is kept of a number
kept_length : (o : Option Sizes) → length (volume_kept o) ≤ 1
kept_length None = omega arith
kept_length (Some sizes) = omega arith

-- a file's number is that of no row that is left
number_gone : (top node : List Row) (kept : Kept) (next : ℕ) (path : Path) (own : Entry) (stored : Stored) → HasSizes (drop 1 top) kept next → IsTree node → map (under path) node ≡ rows_within path (drop 1 top) → HasNothing (entry_in (drop 1 top) path) (names_in (drop 1 top) path) → Some own ≡ entry_in node [] → own.content ≡ content.File stored → volumes_numbered stored.number (rows_outside path (drop 1 top)) ≡ []
number_gone top node kept next path own stored sizes node_tree was nothing is what =
    let number : ℕ = stored.number in
    let one : volumes_numbered number (rows_within path (drop 1 top)) ≡ volume_of path ∷ [] =
    numbers_taken number path (drop 1 top) node own node_tree was nothing is
    ∙ ap (λ (c : Content). cons_option (volume_if number path (stored_of c)) []) what
    ∙ ap (λ (b : Bool). cons_option (cond b (Some (volume_of path)) None) []) ((Decides-eqb number number).1 refl) in
    let length_one = ap length one in
    let all = ap length (sizes.of_files number) in
    let most = kept_length (kept number) in
    let parts = numbers_parted number path (drop 1 top) in
    no_length (volumes_numbered number (rows_outside path (drop 1 top))) (omega (arith, length_one, all, most, parts))

pub cut_file : (top later node : List Row) (kept new : Kept) (next : ℕ) (volumes : Volumes) (names : List (Bor (List ℕ))) (own : Entry) (stored : Stored) → volumes_in top kept next ≡ volumes → IsTable top kept next → 0 < length names → later ≡ rows_outside (map (λ name. name.now) names) top → IsTree later → IsTree node → rows_under (map (λ name. name.now) names) (Some node) ≡ rows_within (map (λ name. name.now) names) top → HasNothing (entry_at volumes.rows (map (λ name. name.now) names)) (names_in volumes.rows (map (λ name. name.now) names)) → Some own ≡ entry_in node [] → own.content ≡ content.File stored → Changes stored.number None kept new → IsTable later new next × (all_sized new (drop 1 later) ≡ all_sized kept (drop 1 later))
cut_file top later node kept new next volumes [] own stored view table some left tree node_tree was nothing is what changes = absurd (omega arith)
cut_file top later node kept new next volumes (name ∷ names) own stored view table some left tree node_tree was nothing is what changes = (
  record {
    root = rooted_with later (rows_outside path (drop 1 top)) below tree;
    sizes = record {
      of_files = λ number. ap (λ (list : List Row). volumes_numbered number (drop 1 list)) below ∙ each number (stored.number == number) refl;
      below_next = λ number above. new_below number above (number == stored.number) refl;
    };
  },
  ap (λ (list : List Row). all_sized new (drop 1 list)) below
      ∙ sized_alike stored.number kept new (rows_outside path (drop 1 top)) (changed_other stored.number None kept new changes) gone
      ∙ ap (λ (list : List Row). all_sized kept (drop 1 list)) (sym below),
) where
  rest : Path
  rest = map (λ name. name.now) names

  path : Path
  path = name.now ∷ rest

  below : later ≡ with_root (rows_outside path (drop 1 top))
  below = cut_below top later name.now rest table.root left

  within : map (under path) node ≡ rows_within path (drop 1 top)
  within = was ∙ within_named top name.now rest table.root

  bottom : HasNothing (entry_in (drop 1 top) path) (names_in (drop 1 top) path)
  bottom = nothing_at top kept next volumes name.now rest view table nothing

  gone : volumes_numbered stored.number (rows_outside path (drop 1 top)) ≡ []
  gone = number_gone top node kept next path own stored table.sizes node_tree within bottom is what

  each : (number : ℕ) (b : Bool) → (stored.number == number) ≡ b → volumes_numbered number (rows_outside path (drop 1 top)) ≡ volume_kept (new number)
  each number true e =
      ap (λ (n : ℕ). volumes_numbered n (rows_outside path (drop 1 top))) (sym ((Decides-eqb stored.number number).0 e))
      ∙ gone
      ∙ ap volume_kept (sym (changed_here stored.number None kept new changes number (flip_eq number stored.number ∙ e)))
  each number false e =
      numbers_outside number path (drop 1 top)
      (numbers_taken number path (drop 1 top) node own node_tree within bottom is
      ∙ ap (λ (c : Content). cons_option (volume_if number path (stored_of c)) []) what
      ∙ ap (λ (b : Bool). cons_option (cond b (Some (volume_of path)) None) []) e)
      ∙ table.sizes.of_files number
      ∙ ap volume_kept (sym (changed_other stored.number None kept new changes number (flip_eq number stored.number ∙ e)))

  new_below : (number : ℕ) → next ≤ number → (b : Bool) → (number == stored.number) ≡ b → new number ≡ None
  new_below number above true e = changed_here stored.number None kept new changes number e
  new_below number above false e = changed_other stored.number None kept new changes number e ∙ table.sizes.below_next number above

-- rename: what it asks of the tree, and what comes of it
some_sized : (kept : Kept) (o : Option Entry) → IsSome (option_map (entry_sized kept) o) → IsSome o
some_sized kept None some = some
some_sized kept (Some entry) some = refl

pub source_tabled : (top : List Row) (kept : Kept) (next : ℕ) (volumes : Volumes) (path : Path) → volumes_in top kept next ≡ volumes → IsTable top kept next → IsSome (entry_at volumes.rows path) → IsSome (entry_in top path)
source_tabled top kept next volumes path view table there =
    some_sized kept (entry_in top path) (subst (λ (o : Option Entry). IsSome o) (sym (entry_found top kept next volumes path (entry_in top path) view table refl)) there)

none_of : (kept : Kept) (rows : List Row) → all_sized kept rows ≡ [] → rows ≡ []
none_of kept [] none = refl
none_of kept (r ∷ rs) none = absurd (cc)

pub target_tabled : (top : List Row) (kept : Kept) (next : ℕ) (volumes : Volumes) (from to : Path) → volumes_in top kept next ≡ volumes → IsTable top kept next → same_volume from to ≡ None → rows_within to volumes.rows ≡ [] → rows_within to top ≡ []
target_tabled top kept next volumes from [] view table same free = absurd (outer from same) where
  outer : (from : Path) → same_volume from [] ≡ None → ⊥
  outer [] same = cc
  outer (a ∷ []) same = cc
  outer (a ∷ b ∷ c) same = cc
target_tabled top kept next volumes from (name ∷ names) view table same free =
    nothing_rooted top name names table.root
    (none_of kept (rows_within (name ∷ names) (drop 1 top)) (sym (filter_framed kept (is_within (name ∷ names)) (drop 1 top)) ∙ ap (λ (v : Volumes). rows_within (name ∷ names) v.rows) view ∙ free))

-- two paths in one volume have names
moved_below : (top later : List Row) (from to : Path) → IsRooted top → same_volume from to ≡ None → later ≡ renamed top from to → later ≡ with_root (renamed (drop 1 top) from to)
moved_below top later [] to root same is = absurd (cc)
moved_below top later (v ∷ []) to root same is = absurd (cc)
moved_below top later (v ∷ n ∷ ns) [] root same is = absurd (cc)
moved_below top later (v ∷ n ∷ ns) (w ∷ ms) root same is = is ∙ renamed_below top v (n ∷ ns) w ms root

pub rename_tabled : (top later : List Row) (kept : Kept) (next : ℕ) (from to : Path) → IsTable top kept next → same_volume from to ≡ None → later ≡ renamed top from to → IsMoved top later from to → IsTree later → IsTable later kept next
rename_tabled top later kept next from to table same is moved tree =
    let rooted = rooted_with later (renamed (drop 1 top) from to) (moved_below top later from to table.root same is) tree in
    record {
      root = rooted;
      sizes = record {
        of_files = λ number.
            let all = numbers_rooted number top table.root ∙ table.sizes.of_files number in
            let length_all = ap length all in
            let most = kept_length (kept number) in
            sym (numbers_rooted number later rooted) ∙ numbers_renamed number from to top later moved same (omega (arith, length_all, most)) ∙ all;
        below_next = table.sizes.below_next;
      };
    }

pub rename_viewed : (top later : List Row) (kept : Kept) (next : ℕ) (volumes : Volumes) (from to : Path) → volumes_in top kept next ≡ volumes → IsTable top kept next → same_volume from to ≡ None → later ≡ renamed top from to → volumes_in later kept next ≡ record volumes { rows = renamed volumes.rows from to }
rename_viewed top later kept next volumes from to view table same is =
    ap (λ (list : List Row). volumes_with next (all_sized kept (drop 1 list))) (moved_below top later from to table.root same is)
    ∙ ap (volumes_with next) (sym (renamed_framed kept (drop 1 top) from to))
    ∙ ap (λ (v : Volumes). record v { rows = renamed v.rows from to }) view

-- the sizes of a file
pub told_none : (top : List Row) (kept : Kept) (next : ℕ) (volumes : Volumes) (file : FileId) → volumes_in top kept next ≡ volumes → IsTable top kept next → None ≡ kept file.number → None ≡ sizes_in volumes.rows file
told_none top kept next volumes file view table is =
    sym (sizes_none file kept (drop 1 top) (table.sizes.of_files file.number ∙ ap volume_kept (sym is))) ∙ ap (λ (v : Volumes). sizes_in v.rows file) view

pub told_some : (top : List Row) (kept : Kept) (next : ℕ) (volumes : Volumes) (file : FileId) (sizes : Sizes) → volumes_in top kept next ≡ volumes → IsTable top kept next → Some sizes ≡ kept file.number → cond (bytes_eq sizes.volume file.volume) (Some (sizes.epoch, sizes.mark)) None ≡ sizes_in volumes.rows file
told_some top kept next volumes file sizes view table is =
    sym (sizes_one file kept (drop 1 top) sizes sizes.volume (table.sizes.of_files file.number ∙ ap volume_kept (sym is)) (sym is)) ∙ ap (λ (v : Volumes). sizes_in v.rows file) view

pub set_never : (top : List Row) (kept : Kept) (next : ℕ) (volumes : Volumes) (file : FileId) → volumes_in top kept next ≡ volumes → IsTable top kept next → None ≡ kept file.number → IsSome (sizes_in volumes.rows file) → ⊥
set_never top kept next volumes file view table is there =
    let none = told_none top kept next volumes file view table is in
    let some : is_some (sizes_in volumes.rows file) ≡ true = there in
    (cc)

set_known : (top : List Row) (kept : Kept) (next : ℕ) (volumes : Volumes) (file : FileId) (sizes : Sizes) → volumes_in top kept next ≡ volumes → IsTable top kept next → Some sizes ≡ kept file.number → IsSome (sizes_in volumes.rows file) → sizes.volume ≡ file.volume
set_known top kept next volumes file sizes view table is there =
    (bytes_eq-Decides sizes.volume file.volume).0 (go (bytes_eq sizes.volume file.volume) (told_some top kept next volumes file sizes view table is)) where
      go : (b : Bool) → cond b (Some (sizes.epoch, sizes.mark)) None ≡ sizes_in volumes.rows file → b ≡ true
      go true h = refl
      go false h = absurd (let some : is_some (sizes_in volumes.rows file) ≡ true = there in (cc))

pub set_viewed : (top : List Row) (kept new : Kept) (next : ℕ) (volumes : Volumes) (file : FileId) (sizes : Sizes) (epoch : ℕ) (mark : SizeMark) → volumes_in top kept next ≡ volumes → IsTable top kept next → Some sizes ≡ kept file.number → IsSome (sizes_in volumes.rows file) → Changes file.number (Some (record { volume = sizes.volume; epoch = epoch; mark = mark })) kept new → volumes_in top new next ≡ record volumes { rows = sizes_set file epoch mark volumes.rows }
set_viewed top kept new next volumes file sizes epoch mark view table is there changes =
    let put : Sizes = record { volume = sizes.volume; epoch = epoch; mark = mark } in
    let one : volumes_numbered file.number (drop 1 top) ≡ sizes.volume ∷ [] = table.sizes.of_files file.number ∙ ap volume_kept (sym is) in
    let all = subst (λ (list : List (List ℕ)). AllByRecursion (λ volume. volume ≡ file.volume) list) (sym one) (set_known top kept next volumes file sizes view table is there, tt) in
    ap (volumes_with next)
    (sizes_put file kept new put (drop 1 top) all (changed_other file.number (Some put) kept new changes) (changed_here file.number (Some put) kept new changes file.number ((Decides-eqb file.number file.number).1 refl)))
    ∙ ap (λ (v : Volumes). record v { rows = sizes_set file epoch mark v.rows }) view

-- what holds whether a call went well or not
pub either : {A B P Q G : Type 0} (result : Result A B) → OnOk result P → OnErr result Q → (P → G) → (Q → G) → G
either (Ok value) ok err well not_well = well ok
either (Err why) ok err well not_well = not_well err
