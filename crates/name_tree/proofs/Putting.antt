-- a row that is put into a tree's flat list
use Rattle.std.proofs.Common.{◌≡◌, ◌∙◌, List, [], ◌∷◌, ◌++◌, map, refl, sym, ap, Bool, true, false, cond, String}
use Rattle.std.specs.Prelude.{Some, None}
use Rattle.std.specs.Str.{bytes_eq}
use Rattle.std.specs.String.{string_bytes}
use Rattle.std.specs.Ordering.{nat_cmp, is_eq, is_lt, ordering_reverse, match_ordering}
use Rattle.std.specs.Cmp.Lexicographic.{slice_cmp}
use Rattle.std.specs.declared.cmp.Ordering.{Ordering}
use Rattle.std.specs.declared.cmp.Ordering.TheVariants.{Less, Equal, Greater}
use Rattle.std.specs.List.{AllByRecursion}
use Rattle.std.specs.List.Sorted.{IsStrictlySortedBy}
use Rattle.std.specs.Map.{lookup, keys_of, set_value}
use Rattle.std.specs.BTreeMap.{insert_entry}
use Rattle.std.proofs.lemmas.Cmp.{nat_list_cmp_total}
use Rattle.std.proofs.lemmas.Map.Text.{is_eq-slice_cmp}
use Rattle.std.proofs.lemmas.Slice.Eq.{bytes_eq-Decides}
use Rattle.volume_rows.specs.declared.Entry.{Entry}
use Rattle.volume_rows.specs.Paths.{Name, Path, same_path, path_cmp, parent_of}
use Rattle.volume_rows.specs.Rows.{Row, with_row}
use Rattle.name_tree.specs.Trees.{below, inside, flat, HasPlace}
use Rattle.name_tree.proofs.Below.{bytes_eq-flip, find_inside}

-- how two names compare
abbrev pub name_cmp : Name → Name → Ordering
name_cmp = slice_cmp nat_cmp

abbrev pub key_test : {A : Type 0} → Name → String A → Bool
key_test n k = is_eq (name_cmp n (string_bytes k))

-- a row at a path
abbrev row_at : Path → Entry → Row
row_at path e = record { path = path; entry = e }

pub name_same : (n : Name) → bytes_eq n n ≡ true
name_same n = (bytes_eq-Decides n n).1 refl

equal_from_is_eq : (o : Ordering) → is_eq o ≡ true → o ≡ Equal
equal_from_is_eq Less h = absurd (cc)
equal_from_is_eq Equal h = refl
equal_from_is_eq Greater h = absurd (cc)

pub cmp_same : (n : Name) → name_cmp n n ≡ Equal
cmp_same n = equal_from_is_eq (name_cmp n n) (is_eq-slice_cmp n n ∙ name_same n)

flip_less : (a b : Name) → name_cmp a b ≡ Less → name_cmp b a ≡ Greater
flip_less a b h = nat_list_cmp_total.antisymm b a ∙ ap ordering_reverse h

flip_greater : (a b : Name) → name_cmp a b ≡ Greater → name_cmp b a ≡ Less
flip_greater a b h = nat_list_cmp_total.antisymm b a ∙ ap ordering_reverse h

differs : (a b : Name) (o : Ordering) → name_cmp a b ≡ o → is_eq o ≡ false → bytes_eq b a ≡ false
differs a b o h e = bytes_eq-flip a b false (sym (is_eq-slice_cmp a b) ∙ ap is_eq h ∙ e)

-- into the rows of its own name
with_this : (n : Name) (ns : Path) (e : Entry) (rows rest : List Row) → with_row rest (row_at (n ∷ ns) e) ≡ row_at (n ∷ ns) e ∷ rest → with_row (map (below n) rows ++ rest) (row_at (n ∷ ns) e) ≡ map (below n) (with_row rows (row_at ns e)) ++ rest
with_this n ns e [] rest h = h
with_this n ns e (r ∷ rs) rest h = rw (name_same n, cmp_same n) (go (same_path r.path ns) (is_lt (path_cmp ns r.path)) (with_this n ns e rs rest h)) where
  go : (a b : Bool) → with_row (map (below n) rs ++ rest) (row_at (n ∷ ns) e) ≡ map (below n) (with_row rs (row_at ns e)) ++ rest
      → cond a (row_at (n ∷ ns) e ∷ (map (below n) rs ++ rest)) (cond b (row_at (n ∷ ns) e ∷ below n r ∷ (map (below n) rs ++ rest)) (below n r ∷ with_row (map (below n) rs ++ rest) (row_at (n ∷ ns) e)))
      ≡ map (below n) (cond a (row_at ns e ∷ rs) (cond b (row_at ns e ∷ r ∷ rs) (r ∷ with_row rs (row_at ns e)))) ++ rest
  go true b later = refl
  go false true later = refl
  go false false later = ap (λ xs. below n r ∷ xs) later

-- past the rows of a lower name
with_lower : (m n : Name) (ns : Path) (e : Entry) (rows rest : List Row) → name_cmp n m ≡ Greater → with_row (map (below m) rows ++ rest) (row_at (n ∷ ns) e) ≡ map (below m) rows ++ with_row rest (row_at (n ∷ ns) e)
with_lower m n ns e [] rest h = refl
with_lower m n ns e (r ∷ rs) rest h = rw (differs n m Greater h refl, h) (ap (λ xs. below m r ∷ xs) (with_lower m n ns e rs rest h))

-- before the rows of higher names
with_higher : {A : Type 0} (n : Name) (ns : Path) (e : Entry) (kids : List (String A × List Row)) → AllByRecursion (λ y. name_cmp n (string_bytes y) ≡ Less) (keys_of kids) → with_row (inside kids) (row_at (n ∷ ns) e) ≡ row_at (n ∷ ns) e ∷ inside kids
with_higher n ns e [] all = refl
with_higher n ns e (kid ∷ kids) all = go kid.1 (with_higher n ns e kids all.1) where
  go : (rows : List Row) → with_row (inside kids) (row_at (n ∷ ns) e) ≡ row_at (n ∷ ns) e ∷ inside kids → with_row (map (below (string_bytes kid.0)) rows ++ inside kids) (row_at (n ∷ ns) e) ≡ row_at (n ∷ ns) e ∷ (map (below (string_bytes kid.0)) rows ++ inside kids)
  go [] later = later
  go (r ∷ rs) later = rw (differs n (string_bytes kid.0) Less all.0 refl, all.0) refl

above_all : {A : Type 0} (n m : Name) (kids : List (String A × List Row)) → name_cmp n m ≡ Less → AllByRecursion (λ y. name_cmp m (string_bytes y) ≡ Less) (keys_of kids) → AllByRecursion (λ y. name_cmp n (string_bytes y) ≡ Less) (keys_of kids)
above_all n m [] h all = tt
above_all n m (kid ∷ kids) h all = (nat_list_cmp_total.trans n m (string_bytes kid.0) h all.0, above_all n m kids h all.1)

-- the names in order
abbrev pub AreSorted : {A : Type 0} → List (String A × List Row) → Type 0
AreSorted kids = IsStrictlySortedBy (λ a b. name_cmp (string_bytes a) (string_bytes b)) (keys_of kids)

-- a name that is found among higher ones is higher
found_above : {A : Type 0} (n m : Name) (sub : List Row) (kids : List (String A × List Row)) → AllByRecursion (λ y. name_cmp m (string_bytes y) ≡ Less) (keys_of kids) → lookup (key_test n) kids ≡ Some sub → name_cmp n m ≡ Greater
found_above n m sub [] all there = absurd (cc)
found_above n m sub (kid ∷ kids) all there = go (key_test n kid.0) refl there (found_above n m sub kids all.1) where
  go : (b : Bool) → key_test n kid.0 ≡ b → cond b (Some kid.1) (lookup (key_test n) kids) ≡ Some sub → (lookup (key_test n) kids ≡ Some sub → name_cmp n m ≡ Greater) → name_cmp n m ≡ Greater
  go true e there later =
      let same : n ≡ string_bytes kid.0 = (bytes_eq-Decides n (string_bytes kid.0)).0 (sym (is_eq-slice_cmp n (string_bytes kid.0)) ∙ e) in
      flip_less m n (ap (name_cmp m) same ∙ all.0)
  go false e there later = later there

-- the row goes into the subtree of its first name, where there is one
pub with_inside_there : {A : Type 0} (n : Name) (ns : Path) (e : Entry) (sub : List Row) (kids : List (String A × List Row)) → AreSorted kids → lookup (key_test n) kids ≡ Some sub → with_row (inside kids) (row_at (n ∷ ns) e) ≡ inside (set_value (key_test n) kids (with_row sub (row_at ns e)))
unfolding IsStrictlySortedBy
with_inside_there n ns e sub [] sorted there = absurd (cc)
with_inside_there n ns e sub (kid ∷ kids) sorted there = go (key_test n kid.0) refl there (with_inside_there n ns e sub kids sorted.1) where
  go : (b : Bool) → key_test n kid.0 ≡ b → cond b (Some kid.1) (lookup (key_test n) kids) ≡ Some sub
      → (lookup (key_test n) kids ≡ Some sub → with_row (inside kids) (row_at (n ∷ ns) e) ≡ inside (set_value (key_test n) kids (with_row sub (row_at ns e))))
      → with_row (map (below (string_bytes kid.0)) kid.1 ++ inside kids) (row_at (n ∷ ns) e) ≡ inside (cond b ((kid.0, with_row sub (row_at ns e)) ∷ kids) (kid ∷ set_value (key_test n) kids (with_row sub (row_at ns e))))
  go true t there later =
      let same : n ≡ string_bytes kid.0 = (bytes_eq-Decides n (string_bytes kid.0)).0 (sym (is_eq-slice_cmp n (string_bytes kid.0)) ∙ t) in
      let own : kid.1 ≡ sub = cc in
      rw (same, ← own) (with_this (string_bytes kid.0) ns e kid.1 (inside kids) (with_higher (string_bytes kid.0) ns e kids sorted.0))
  go false t there later =
      with_lower (string_bytes kid.0) n ns e kid.1 (inside kids) (found_above n (string_bytes kid.0) sub kids sorted.0 there)
      ∙ ap (λ rest. map (below (string_bytes kid.0)) kid.1 ++ rest) (later there)

-- and becomes a subtree of its own where there is none
pub with_inside_new : {A : Type 0} (n : Name) (e : Entry) (key : String A) (kids : List (String A × List Row)) → string_bytes key ≡ n → AreSorted kids → lookup (key_test n) kids ≡ None → with_row (inside kids) (row_at (n ∷ []) e) ≡ inside (insert_entry (λ a b. name_cmp (string_bytes a) (string_bytes b)) kids key (row_at [] e ∷ []))
unfolding IsStrictlySortedBy
with_inside_new n e key [] is sorted gone = ap (λ m. row_at (m ∷ []) e ∷ []) (sym is)
with_inside_new n e key (kid ∷ kids) is sorted gone =
    go (name_cmp (string_bytes key) (string_bytes kid.0)) (ap (λ x. name_cmp x (string_bytes kid.0)) (sym is)) (with_inside_new n e key kids is sorted.1) where
      go : (o : Ordering) → name_cmp n (string_bytes kid.0) ≡ o
          → (lookup (key_test n) kids ≡ None → with_row (inside kids) (row_at (n ∷ []) e) ≡ inside (insert_entry (λ a b. name_cmp (string_bytes a) (string_bytes b)) kids key (row_at [] e ∷ [])))
          → with_row (map (below (string_bytes kid.0)) kid.1 ++ inside kids) (row_at (n ∷ []) e)
          ≡ inside (match_ordering o ((key, row_at [] e ∷ []) ∷ kid ∷ kids) ((kid.0, row_at [] e ∷ []) ∷ kids) (kid ∷ insert_entry (λ a b. name_cmp (string_bytes a) (string_bytes b)) kids key (row_at [] e ∷ [])))
      go Less h later =
          with_higher n [] e (kid ∷ kids) (h, above_all n (string_bytes kid.0) kids h sorted.0)
          ∙ ap (λ m. row_at (m ∷ []) e ∷ (map (below (string_bytes kid.0)) kid.1 ++ inside kids)) (sym is)
      go Equal h later = absurd (let g = rw h at gone in (cc))
      go Greater h later =
          with_lower (string_bytes kid.0) n [] e kid.1 (inside kids) h ∙ ap (λ rest. map (below (string_bytes kid.0)) kid.1 ++ rest) (later (rw h at gone))

-- a subtree that is put back as it was changes nothing
pub put_back : {A : Type 0} (n : Name) (sub : List Row) (kids : List (String A × List Row)) → lookup (key_test n) kids ≡ Some sub → set_value (key_test n) kids sub ≡ kids
put_back n sub [] there = refl
put_back n sub (kid ∷ kids) there = go (key_test n kid.0) there (put_back n sub kids) where
  go : (b : Bool) → cond b (Some kid.1) (lookup (key_test n) kids) ≡ Some sub → (lookup (key_test n) kids ≡ Some sub → set_value (key_test n) kids sub ≡ kids) → cond b ((kid.0, sub) ∷ kids) (kid ∷ set_value (key_test n) kids sub) ≡ kid ∷ kids
  go true there later = let own : kid.1 ≡ sub = cc in ap (λ rows. (kid.0, rows) ∷ kids) (sym own)
  go false there later = ap (λ ks. kid ∷ ks) (later there)

-- the directory of a path below a subtree is in the subtree
pub place_below : {A : Type 0} (entry : Entry) (kids : List (String A × List Row)) (rows sub : List Row) (path : Path) (n : Name) (ns : Path) → flat entry kids ≡ rows → path ≡ n ∷ ns → AreSorted kids → Some sub ≡ lookup (key_test n) kids → HasPlace rows path → HasPlace sub ns
place_below entry kids rows sub path n [] view is sorted there place = tt
place_below entry kids rows sub path n (m ∷ ms) view is sorted there place =
    let here = rw (← view, is) at place in
    rw (find_inside n (parent_of (m ∷ ms)) kids sorted, ← there) at here

-- without a subtree of its first name a path whose directory is there has no other name
pub place_here : {A : Type 0} (entry : Entry) (kids : List (String A × List Row)) (rows : List Row) (path : Path) (n : Name) (ns : Path) → flat entry kids ≡ rows → path ≡ n ∷ ns → AreSorted kids → lookup (key_test n) kids ≡ None → HasPlace rows path → ns ≡ []
place_here entry kids rows path n [] view is sorted gone place = refl
place_here entry kids rows path n (m ∷ ms) view is sorted gone place =
    let here = rw (← view, is) at place in
    absurd (rw (find_inside n (parent_of (m ∷ ms)) kids sorted, gone) at here)

-- the whole list, where the row went into a subtree
pub put_there : {A : Type 0} (entry : Entry) (kids later : List (String A × List Row)) (rows sub made : List Row) (path : Path) (n : Name) (ns : Path) (e : Entry) → flat entry kids ≡ rows → path ≡ n ∷ ns → AreSorted kids → Some sub ≡ lookup (key_test n) kids → later ≡ set_value (key_test n) kids made → made ≡ with_row sub (row_at ns e) → flat entry later ≡ with_row rows (row_at path e)
put_there entry kids later rows sub made path n ns e view is sorted there through new =
    rw (← view, is, through, new) (ap (λ rest. row_at [] entry ∷ rest) (sym (with_inside_there n ns e sub kids sorted (sym there))))

-- where nothing was put into the subtree
pub put_nothing : {A : Type 0} (entry : Entry) (kids later : List (String A × List Row)) (rows sub made : List Row) (n : Name) → flat entry kids ≡ rows → Some sub ≡ lookup (key_test n) kids → later ≡ set_value (key_test n) kids made → made ≡ sub → flat entry later ≡ rows
put_nothing entry kids later rows sub made n view there through same =
    ap (flat entry) (through ∙ ap (set_value (key_test n) kids) same ∙ put_back n sub kids (sym there)) ∙ view

-- and where it became a subtree
pub put_new : {A : Type 0} (entry : Entry) (kids later : List (String A × List Row)) (rows node : List Row) (path : Path) (n : Name) (ns : Path) (e : Entry) (key : String A) → flat entry kids ≡ rows → path ≡ n ∷ ns → AreSorted kids → None ≡ lookup (key_test n) kids → HasPlace rows path → string_bytes key ≡ n → node ≡ row_at [] e ∷ [] → later ≡ insert_entry (λ a b. name_cmp (string_bytes a) (string_bytes b)) kids key node → flat entry later ≡ with_row rows (row_at path e)
put_new entry kids later rows node path n ns e key view is sorted gone place named new inserted =
    let alone = place_here entry kids rows path n ns view is sorted (sym gone) place in
    rw (← view, is, alone, inserted, new) (ap (λ rest. row_at [] entry ∷ rest) (sym (with_inside_new n e key kids named sorted (sym gone))))
