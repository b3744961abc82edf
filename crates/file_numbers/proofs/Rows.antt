-- rows that rise by path, and how many of them are of a file's number, as rows are put, moved and left out
use Rattle.std.proofs.Common.{◌≡◌, ◌∙◌, ℕ, ◌+◌, ◌≤◌, refl, sym, ap, subst, Bool, true, false, cond, arith}
use Rattle.std.specs.Prelude.{Option, Some, None, List, [], ◌∷◌, ◌&&◌, map, filter, fold, not}
use Rattle.std.specs.declared.cmp.Ordering.{Ordering}
use Rattle.std.specs.declared.cmp.Ordering.TheVariants.{Less, Equal, Greater}
use Rattle.std.specs.Ordering.{is_lt, is_eq, ordering_reverse, ordering_then, nat_cmp}
use Rattle.std.specs.Cmp.{IsTotalOrder}
use Rattle.std.specs.Cmp.Lexicographic.{slice_cmp}
use Rattle.std.specs.Str.{bytes_eq}
use Rattle.std.proofs.lemmas.Bool.{eq-eqb}
use Rattle.std.proofs.lemmas.Cmp.{lists_total, nat_list_cmp_total}
use Rattle.std.proofs.lemmas.Map.Text.{is_eq-slice_cmp}
use Rattle.std.proofs.lemmas.Slice.Eq.{bytes_eq-Decides}
use Rattle.xt_base.specs.declared.ids.FileId.{FileId}
use Rattle.xt_base.specs.declared.ids.SizeMark.{SizeMark}
use Rattle.volume_rows.specs.declared.Entry.{Entry}
use Rattle.volume_rows.specs.declared.Stored.{Stored}
use Rattle.volume_rows.specs.declared.Content.{Content}
use Rattle.volume_rows.specs.declared.Content.TheVariants as content
use Rattle.volume_rows.specs.Paths.{Name, Path, same_path, path_cmp, is_within}
use Rattle.volume_rows.specs.Rows.{Row, Volumes, entry_in, entry_at, with_row, without_row, rows_within, rows_outside, moved, renamed}
use Rattle.volume_rows.specs.Grants.{stored_of, stored_in, holds_file, with_sizes, sizes_set}
use Rattle.file_numbers.specs.Numbers.{is_numbered_as, is_numbered, rows_numbered, AreLater, PathsRise, NumbersFit, StandOnce}

-- ---- the order of paths

path_total : IsTotalOrder path_cmp
path_total = lists_total nat_list_cmp_total

eq_then : (o p : Ordering) → is_eq (ordering_then o p) ≡ (is_eq o && is_eq p)
eq_then Less p = refl
eq_then Equal p = refl
eq_then Greater p = refl

same_cmp : (a b : Path) → is_eq (path_cmp a b) ≡ same_path a b
same_cmp [] [] = refl
same_cmp [] (m ∷ ms) = refl
same_cmp (n ∷ ns) [] = refl
same_cmp (n ∷ ns) (m ∷ ms) =
    eq_then (slice_cmp nat_cmp n m) (path_cmp ns ms)
    ∙ ap (λ (b : Bool). b && is_eq (path_cmp ns ms)) (is_eq-slice_cmp n m)
    ∙ ap (λ (b : Bool). bytes_eq n m && b) (same_cmp ns ms)

pub same_is : (a b : Path) → same_path a b ≡ true → a ≡ b
same_is [] [] same = refl
same_is [] (m ∷ ms) same = absurd (cc)
same_is (n ∷ ns) [] same = absurd (cc)
same_is (n ∷ ns) (m ∷ ms) same = go (bytes_eq n m) refl same (same_is ns ms) where
  go : (b : Bool) → bytes_eq n m ≡ b → (b && same_path ns ms) ≡ true → (same_path ns ms ≡ true → ns ≡ ms) → n ∷ ns ≡ m ∷ ms
  go true e h later = ap (λ (x : Name). x ∷ ns) ((bytes_eq-Decides n m).0 e) ∙ ap (λ (xs : Path). m ∷ xs) (later h)
  go false e h later = absurd (cc)

is_less : (o : Ordering) → is_lt o ≡ true → o ≡ Less
is_less Less is = refl
is_less Equal is = absurd (cc)
is_less Greater is = absurd (cc)

turned_less : (o : Ordering) → is_eq (ordering_reverse o) ≡ false → is_lt o ≡ false → ordering_reverse o ≡ Less
turned_less Less differs is = absurd (cc)
turned_less Equal differs is = absurd (cc)
turned_less Greater differs is = refl

-- of two paths that differ one comes first
else_less : (a b : Path) → same_path a b ≡ false → is_lt (path_cmp b a) ≡ false → path_cmp a b ≡ Less
else_less a b differ after =
    let turns = path_total.antisymm a b in
    turns ∙ turned_less (path_cmp b a) (sym (ap is_eq turns) ∙ same_cmp a b ∙ differ) after

not_less : (a b : Path) → path_cmp a b ≡ Less → is_lt (path_cmp b a) ≡ false
not_less a b less = ap is_lt (path_total.antisymm b a ∙ ap ordering_reverse less)

-- ---- rising rows

later_along : (a b : Path) (rows : List Row) → path_cmp a b ≡ Less → AreLater b rows → AreLater a rows
later_along a b [] less later = tt
later_along a b (r ∷ rs) less later = (path_total.trans a b r.path less later.0, later_along a b rs less later.1)

later_put : (path : Path) (rows : List Row) (row : Row) → path_cmp path row.path ≡ Less → AreLater path rows → AreLater path (with_row rows row)
later_put path [] row less later = (less, tt)
later_put path (r ∷ rs) row less later = go (same_path r.path row.path) (is_lt (path_cmp row.path r.path)) (later_put path rs row less later.1) where
  go : (a b : Bool) → AreLater path (with_row rs row) → AreLater path (cond a (row ∷ rs) (cond b (row ∷ r ∷ rs) (r ∷ with_row rs row)))
  go true b rest = (less, later.1)
  go false true rest = (less, later)
  go false false rest = (later.0, rest)

pub rise_put : (rows : List Row) (row : Row) → PathsRise rows → PathsRise (with_row rows row)
rise_put [] row rise = (tt, tt)
rise_put (r ∷ rs) row rise = go (same_path r.path row.path) (is_lt (path_cmp row.path r.path)) refl refl (rise_put rs row rise.1) where
  go : (a b : Bool) → same_path r.path row.path ≡ a → is_lt (path_cmp row.path r.path) ≡ b → PathsRise (with_row rs row)
      → PathsRise (cond a (row ∷ rs) (cond b (row ∷ r ∷ rs) (r ∷ with_row rs row)))
  go true b same before rest = (subst (λ (p : Path). AreLater p rs) (same_is r.path row.path same) rise.0, rise.1)
  go false true same before rest =
      let less = is_less (path_cmp row.path r.path) before in ((less, later_along row.path r.path rs less rise.0), rise)
  go false false same before rest = (later_put r.path rs row (else_less r.path row.path same before) rise.0, rest)

later_left : (path : Path) (keeps : Row → Bool) (rows : List Row) → AreLater path rows → AreLater path (filter keeps rows)
later_left path keeps [] later = tt
later_left path keeps (r ∷ rs) later = go (keeps r) (later_left path keeps rs later.1) where
  go : (b : Bool) → AreLater path (filter keeps rs) → AreLater path (cond b (r ∷ filter keeps rs) (filter keeps rs))
  go true rest = (later.0, rest)
  go false rest = rest

pub rise_left : (keeps : Row → Bool) (rows : List Row) → PathsRise rows → PathsRise (filter keeps rows)
rise_left keeps [] rise = tt
rise_left keeps (r ∷ rs) rise = go (keeps r) (rise_left keeps rs rise.1) where
  go : (b : Bool) → PathsRise (filter keeps rs) → PathsRise (cond b (r ∷ filter keeps rs) (filter keeps rs))
  go true rest = (later_left r.path keeps rs rise.0, rest)
  go false rest = rest

rise_all_put : (rows new : List Row) → PathsRise rows → PathsRise (fold with_row rows new)
rise_all_put rows [] rise = rise
rise_all_put rows (r ∷ rs) rise = rise_all_put (with_row rows r) rs (rise_put rows r rise)

pub rise_renamed : (rows : List Row) (from to : Path) → PathsRise rows → PathsRise (renamed rows from to)
rise_renamed rows from to rise =
    rise_all_put (rows_outside from rows) (map (moved from to) (rows_within from rows)) (rise_left (λ r. not (is_within from r.path)) rows rise)

-- sizes leave paths as they are
module _ (file : FileId) (epoch : ℕ) (mark : SizeMark) where
  abbrev sized : Row → Row
  sized row = cond (holds_file file row) (record { path = row.path; entry = record row.entry { content = with_sizes epoch mark row.entry.content } }) row

  sized_path : (row : Row) → (sized row).path ≡ row.path
  sized_path row = go (holds_file file row) where
    go : (b : Bool) → (cond b (record { path = row.path; entry = record row.entry { content = with_sizes epoch mark row.entry.content } }) row).path ≡ row.path
    go true = refl
    go false = refl

  later_sized : (path : Path) (rows : List Row) → AreLater path rows → AreLater path (sizes_set file epoch mark rows)
  later_sized path [] later = tt
  later_sized path (r ∷ rs) later = (ap (path_cmp path) (sized_path r) ∙ later.0, later_sized path rs later.1)

  pub rise_sized : (rows : List Row) → PathsRise rows → PathsRise (sizes_set file epoch mark rows)
  rise_sized [] rise = tt
  rise_sized (r ∷ rs) rise =
      (subst (λ (p : Path). AreLater p (sizes_set file epoch mark rs)) (sym (sized_path r)) (later_sized r.path rs rise.0), rise_sized rs rise.1)

-- ---- how many rows are of a number

module _ (number : ℕ) where
  abbrev one : Row → ℕ
  one row = cond (is_numbered number row) 1 0

  pub count_put : (rows : List Row) (row : Row) → rows_numbered number (with_row rows row) ≤ rows_numbered number rows + cond (is_numbered number row) 1 0
  count_put [] row = omega arith
  count_put (r ∷ rs) row = go (same_path r.path row.path) (is_lt (path_cmp row.path r.path)) (count_put rs row) where
    go : (a b : Bool) → rows_numbered number (with_row rs row) ≤ rows_numbered number rs + one row
        → rows_numbered number (cond a (row ∷ rs) (cond b (row ∷ r ∷ rs) (r ∷ with_row rs row))) ≤ (one r + rows_numbered number rs) + one row
    go true b rest = omega arith
    go false true rest = omega arith
    go false false rest = omega arith

  count_all_put : (rows new : List Row) → rows_numbered number (fold with_row rows new) ≤ rows_numbered number rows + rows_numbered number new
  count_all_put rows [] = omega arith
  count_all_put rows (r ∷ rs) = let rest = count_all_put (with_row rows r) rs in let here = count_put rows r in omega arith

  pub count_left : (keeps : Row → Bool) (rows : List Row) → rows_numbered number (filter keeps rows) ≤ rows_numbered number rows
  count_left keeps [] = omega arith
  count_left keeps (r ∷ rs) = go (keeps r) (count_left keeps rs) where
    go : (b : Bool) → rows_numbered number (filter keeps rs) ≤ rows_numbered number rs
        → rows_numbered number (cond b (r ∷ filter keeps rs) (filter keeps rs)) ≤ one r + rows_numbered number rs
    go true rest = omega arith
    go false rest = omega arith

  -- those at or below a path and all others
  count_parts : (test : Row → Bool) (rows : List Row)
      → rows_numbered number (filter (λ r. not (test r)) rows) + rows_numbered number (filter test rows) ≡ rows_numbered number rows
  count_parts test [] = omega arith
  count_parts test (r ∷ rs) = go (test r) (count_parts test rs) where
    others : List Row
    others = filter (λ r. not (test r)) rs

    go : (b : Bool) → rows_numbered number (filter (λ r. not (test r)) rs) + rows_numbered number (filter test rs) ≡ rows_numbered number rs
        → rows_numbered number (cond (not b) (r ∷ filter (λ r. not (test r)) rs) (filter (λ r. not (test r)) rs))
        + rows_numbered number (cond b (r ∷ filter test rs) (filter test rs))
        ≡ one r + rows_numbered number rs
    go true rest = omega arith
    go false rest = omega arith

  count_moved : (from to : Path) (rows : List Row) → rows_numbered number (map (moved from to) rows) ≡ rows_numbered number rows
  count_moved from to [] = refl
  count_moved from to (r ∷ rs) = ap (λ (n : ℕ). cond (is_numbered number r) 1 0 + n) (count_moved from to rs)

  pub count_renamed : (rows : List Row) (from to : Path) → rows_numbered number (renamed rows from to) ≤ rows_numbered number rows
  count_renamed rows from to =
      let put = count_all_put (rows_outside from rows) (map (moved from to) (rows_within from rows)) in
      let same = count_moved from to (rows_within from rows) in
      let parts = count_parts (λ r. is_within from r.path) rows in
      omega arith

  numbered_sized : (epoch : ℕ) (mark : SizeMark) (what : Content) → is_numbered_as number (stored_of (with_sizes epoch mark what)) ≡ is_numbered_as number (stored_of what)
  numbered_sized epoch mark content.Directory = refl
  numbered_sized epoch mark (content.File stored) = refl

  pub count_sized : (file : FileId) (epoch : ℕ) (mark : SizeMark) (rows : List Row) → rows_numbered number (sizes_set file epoch mark rows) ≡ rows_numbered number rows
  count_sized file epoch mark [] = refl
  count_sized file epoch mark (r ∷ rs) =
      ap (λ (b : Bool). cond b 1 0 + rows_numbered number (sizes_set file epoch mark rs)) (go (holds_file file r))
      ∙ ap (λ (n : ℕ). cond (is_numbered number r) 1 0 + n) (count_sized file epoch mark rs)
    where
      go : (b : Bool) → is_numbered number (cond b (record { path = r.path; entry = record r.entry { content = with_sizes epoch mark r.entry.content } }) r) ≡ is_numbered number r
      go true = numbered_sized epoch mark r.entry.content
      go false = refl

  -- ---- rows that are there

  there_later : (path at : Path) (rows : List Row) (entry : Entry) → AreLater path rows → entry_in rows at ≡ Some entry → path_cmp path at ≡ Less
  there_later path at [] entry later is = absurd (cc)
  there_later path at (r ∷ rs) entry later is = go (same_path r.path at) refl is (there_later path at rs entry later.1) where
    go : (b : Bool) → same_path r.path at ≡ b → cond b (Some r.entry) (entry_in rs at) ≡ Some entry → (entry_in rs at ≡ Some entry → path_cmp path at ≡ Less) → path_cmp path at ≡ Less
    go true same is rest = subst (λ (p : Path). path_cmp path p ≡ Less) (same_is r.path at same) later.0
    go false same is rest = rest is

  -- one is put in the place of another of the same number
  pub count_replaced : (rows : List Row) (path : Path) (old new : Entry) → PathsRise rows → entry_in rows path ≡ Some old
      → is_numbered_as number (stored_of new.content) ≡ is_numbered_as number (stored_of old.content)
      → rows_numbered number (with_row rows (record { path = path; entry = new })) ≡ rows_numbered number rows
  count_replaced [] path old new rise is alike = absurd (cc)
  count_replaced (r ∷ rs) path old new rise is alike = go (same_path r.path path) refl is (λ h. count_replaced rs path old new rise.1 h alike) where
    row : Row
    row = record { path = path; entry = new }

    after : (b : Bool) → is_lt (path_cmp path r.path) ≡ b → b ≡ false → rows_numbered number (with_row rs (record { path = path; entry = new })) ≡ rows_numbered number rs
        → rows_numbered number (cond b (record { path = path; entry = new } ∷ r ∷ rs) (r ∷ with_row rs (record { path = path; entry = new }))) ≡ one r + rows_numbered number rs
    after true is not rest = absurd (cc)
    after false is not rest = ap (λ (n : ℕ). cond (is_numbered number r) 1 0 + n) rest

    go : (b : Bool) → same_path r.path path ≡ b → cond b (Some r.entry) (entry_in rs path) ≡ Some old
        → (entry_in rs path ≡ Some old → rows_numbered number (with_row rs (record { path = path; entry = new })) ≡ rows_numbered number rs)
        → rows_numbered number (cond b (record { path = path; entry = new } ∷ rs) (cond (is_lt (path_cmp path r.path)) (record { path = path; entry = new } ∷ r ∷ rs) (r ∷ with_row rs (record { path = path; entry = new }))))
        ≡ one r + rows_numbered number rs
    go true same is rest =
        let this : r.entry ≡ old = cc in
        ap (λ (b : Bool). cond b 1 0 + rows_numbered number rs) (alike ∙ sym (ap (λ (e : Entry). is_numbered_as number (stored_of e.content)) this))
    go false same is rest =
        after (is_lt (path_cmp path r.path)) refl (not_less r.path path (there_later r.path path rs old rise.0 is)) (rest is)

  -- a row of the number is there
  pub count_there : (rows : List Row) (path : Path) (entry : Entry) → entry_in rows path ≡ Some entry → is_numbered_as number (stored_of entry.content) ≡ true
      → 1 ≤ rows_numbered number rows
  count_there [] path entry is own = absurd (cc)
  count_there (r ∷ rs) path entry is own = go (same_path r.path path) is (λ h. count_there rs path entry h own) where
    go : (b : Bool) → cond b (Some r.entry) (entry_in rs path) ≡ Some entry → (entry_in rs path ≡ Some entry → 1 ≤ rows_numbered number rs) → 1 ≤ one r + rows_numbered number rs
    go true is rest =
        let this : r.entry ≡ entry = cc in
        let counted : one r ≡ 1 = ap (λ (b : Bool). cond b 1 0) (ap (λ (e : Entry). is_numbered_as number (stored_of e.content)) this ∙ own) in
        omega arith
    go false is rest = let below = rest is in omega arith

  -- and without it there is one less
  pub count_gone : (rows : List Row) (path : Path) (entry : Entry) → entry_in rows path ≡ Some entry → is_numbered_as number (stored_of entry.content) ≡ true
      → rows_numbered number (without_row rows path) + 1 ≤ rows_numbered number rows
  count_gone [] path entry is own = absurd (cc)
  count_gone (r ∷ rs) path entry is own = go (same_path r.path path) is (λ h. count_gone rs path entry h own) where
    go : (b : Bool) → cond b (Some r.entry) (entry_in rs path) ≡ Some entry
        → (entry_in rs path ≡ Some entry → rows_numbered number (without_row rs path) + 1 ≤ rows_numbered number rs)
        → rows_numbered number (cond (not b) (r ∷ without_row rs path) (without_row rs path)) + 1 ≤ one r + rows_numbered number rs
    go true is rest =
        let this : r.entry ≡ entry = cc in
        let counted : one r ≡ 1 = ap (λ (b : Bool). cond b 1 0) (ap (λ (e : Entry). is_numbered_as number (stored_of e.content)) this ∙ own) in
        let fewer = count_left (λ r. not (same_path r.path path)) rs in
        omega arith
    go false is rest = let below = rest is in omega arith

  -- at two paths there are two
  count_two : (rows : List Row) (a b : Path) (x y : Entry) → same_path a b ≡ false → entry_in rows a ≡ Some x → entry_in rows b ≡ Some y
      → is_numbered_as number (stored_of x.content) ≡ true → is_numbered_as number (stored_of y.content) ≡ true → 2 ≤ rows_numbered number rows
  count_two [] a b x y differ first second own also = absurd (cc)
  count_two (r ∷ rs) a b x y differ first second own also =
      go (same_path r.path a) (same_path r.path b) refl refl first second (λ h k. count_two rs a b x y differ h k own also)
    where
      counted : (e : Entry) → r.entry ≡ e → is_numbered_as number (stored_of e.content) ≡ true → one r ≡ 1
      counted e this own = ap (λ (t : Bool). cond t 1 0) (ap (λ (e : Entry). is_numbered_as number (stored_of e.content)) this ∙ own)

      one_path : same_path r.path a ≡ true → same_path r.path b ≡ true → same_path a b ≡ true
      one_path at also_at =
          subst (λ (p : Path). same_path p b ≡ true) (same_is r.path a at) also_at

      go : (t u : Bool) → same_path r.path a ≡ t → same_path r.path b ≡ u → cond t (Some r.entry) (entry_in rs a) ≡ Some x → cond u (Some r.entry) (entry_in rs b) ≡ Some y
          → (entry_in rs a ≡ Some x → entry_in rs b ≡ Some y → 2 ≤ rows_numbered number rs) → 2 ≤ one r + rows_numbered number rs
      go true true at also_at is also_is rest = absurd (let same = one_path at also_at in cc)
      go true false at also_at is also_is rest =
          let this : r.entry ≡ x = cc in
          let here = counted x this own in
          let below = count_there rs b y also_is also in
          omega arith
      go false true at also_at is also_is rest =
          let this : r.entry ≡ y = cc in
          let here = counted y this also in
          let below = count_there rs a x is own in
          omega arith
      go false false at also_at is also_is rest = let below = rest is also_is in omega arith

-- ---- one path a number

stored_there : (rows : List Row) (path : Path) (stored : Stored) → stored_in (entry_at rows path) ≡ Some stored
    → (entry : Entry) × (entry_in rows path ≡ Some entry) × (stored_of entry.content ≡ Some stored)
stored_there rows [] stored is = absurd (cc)
stored_there rows (name ∷ names) stored is = go (entry_in rows (name ∷ names)) refl is where
  go : (o : Option Entry) → entry_in rows (name ∷ names) ≡ o → stored_in o ≡ Some stored
      → (entry : Entry) × (entry_in rows (name ∷ names) ≡ Some entry) × (stored_of entry.content ≡ Some stored)
  go None at is = absurd (cc)
  go (Some entry) at is = (entry, at, is)

-- a file at a path is of its number
pub numbered_there : (rows : List Row) (path : Path) (stored : Stored) → stored_in (entry_at rows path) ≡ Some stored
    → (entry : Entry) × (entry_in rows path ≡ Some entry) × (is_numbered_as stored.number (stored_of entry.content) ≡ true)
numbered_there rows path stored is =
    let at = stored_there rows path stored is in
    (at.0, at.1, ap (is_numbered_as stored.number) at.2 ∙ eq-eqb stored.number stored.number refl)

pub stand_once : (volumes : Volumes) → NumbersFit volumes → StandOnce volumes.rows
stand_once volumes fit a b x y first second same = go (same_path a b) refl where
  at : (entry : Entry) × (entry_in volumes.rows a ≡ Some entry) × (is_numbered_as x.number (stored_of entry.content) ≡ true)
  at = numbered_there volumes.rows a x first

  also : (entry : Entry) × (entry_in volumes.rows b ≡ Some entry) × (is_numbered_as x.number (stored_of entry.content) ≡ true)
  also =
      subst (λ (n : ℕ). (entry : Entry) × (entry_in volumes.rows b ≡ Some entry) × (is_numbered_as n (stored_of entry.content) ≡ true)) (sym same)
      (numbered_there volumes.rows b y second)

  go : (t : Bool) → same_path a b ≡ t → a ≡ b
  go true is = same_is a b is
  go false is =
      absurd (let two = count_two x.number volumes.rows a b at.0 also.0 is at.1 also.1 at.2 also.2 in let once = fit.once x.number in omega arith)
