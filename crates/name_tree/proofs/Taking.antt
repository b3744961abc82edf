-- what a tree's flat list has at or below a path, and what it has besides
use Rattle.std.proofs.Common.{◌≡◌, ◌∙◌, List, [], ◌∷◌, ◌++◌, map, refl, sym, ap, Bool, true, false, cond, append-nil, String}
use Rattle.std.specs.Prelude.{Option, Some, None, not}
use Rattle.std.specs.Str.{bytes_eq}
use Rattle.std.specs.String.{string_bytes}
use Rattle.std.specs.Ordering.{nat_cmp}
use Rattle.std.specs.Cmp.Lexicographic.{slice_cmp}
use Rattle.std.specs.declared.cmp.Ordering.TheVariants.{Less}
use Rattle.std.specs.List.{AllByRecursion}
use Rattle.std.specs.List.Sorted.{IsStrictlySortedBy}
use Rattle.std.specs.Map.{lookup, keys_of, set_value, remove_entry}
use Rattle.std.proofs.lemmas.Map.Text.{is_eq-slice_cmp}
use Rattle.std.proofs.lemmas.Slice.Eq.{bytes_eq-Decides}
use Rattle.volume_rows.specs.declared.Entry.{Entry}
use Rattle.volume_rows.specs.Paths.{Name, Path, is_within}
use Rattle.volume_rows.specs.Rows.{Row, rows_within, rows_outside}
use Rattle.name_tree.specs.Trees.{below, inside, flat, under, rows_under}
use Rattle.name_tree.proofs.Putting.{AreSorted, key_test, name_same}

-- among rows below another name nothing is within a path
other_outside : (m n : Name) (ns : Path) (rows rest : List Row) → bytes_eq n m ≡ false → rows_outside (n ∷ ns) (map (below m) rows ++ rest) ≡ map (below m) rows ++ rows_outside (n ∷ ns) rest
other_outside m n ns [] rest h = refl
other_outside m n ns (r ∷ rs) rest h = rw h (ap (λ xs. below m r ∷ xs) (other_outside m n ns rs rest h))

other_within : (m n : Name) (ns : Path) (rows rest : List Row) → bytes_eq n m ≡ false → rows_within (n ∷ ns) (map (below m) rows ++ rest) ≡ rows_within (n ∷ ns) rest
other_within m n ns [] rest h = refl
other_within m n ns (r ∷ rs) rest h = rw h (other_within m n ns rs rest h)

-- among rows below its first name it is what is within the rest of the path
this_outside : (n : Name) (ns : Path) (rows rest : List Row) → rows_outside (n ∷ ns) (map (below n) rows ++ rest) ≡ map (below n) (rows_outside ns rows) ++ rows_outside (n ∷ ns) rest
this_outside n ns [] rest = refl
this_outside n ns (r ∷ rs) rest = rw (name_same n) (go (is_within ns r.path) (this_outside n ns rs rest)) where
  go : (b : Bool) → rows_outside (n ∷ ns) (map (below n) rs ++ rest) ≡ map (below n) (rows_outside ns rs) ++ rows_outside (n ∷ ns) rest
      → cond (not b) (below n r ∷ rows_outside (n ∷ ns) (map (below n) rs ++ rest)) (rows_outside (n ∷ ns) (map (below n) rs ++ rest)) ≡ map (below n) (cond (not b) (r ∷ rows_outside ns rs) (rows_outside ns rs)) ++ rows_outside (n ∷ ns) rest
  go true later = later
  go false later = ap (λ xs. below n r ∷ xs) later

this_within : (n : Name) (ns : Path) (rows rest : List Row) → rows_within (n ∷ ns) (map (below n) rows ++ rest) ≡ map (below n) (rows_within ns rows) ++ rows_within (n ∷ ns) rest
this_within n ns [] rest = refl
this_within n ns (r ∷ rs) rest = rw (name_same n) (go (is_within ns r.path) (this_within n ns rs rest)) where
  go : (b : Bool) → rows_within (n ∷ ns) (map (below n) rs ++ rest) ≡ map (below n) (rows_within ns rs) ++ rows_within (n ∷ ns) rest
      → cond b (below n r ∷ rows_within (n ∷ ns) (map (below n) rs ++ rest)) (rows_within (n ∷ ns) (map (below n) rs ++ rest)) ≡ map (below n) (cond b (r ∷ rows_within ns rs) (rows_within ns rs)) ++ rows_within (n ∷ ns) rest
  go true later = ap (λ xs. below n r ∷ xs) later
  go false later = later

-- nothing is within a path whose first name is none of these
pub none_within : {A : Type 0} (n : Name) (ns : Path) (kids : List (String A × List Row)) → lookup (key_test n) kids ≡ None → rows_within (n ∷ ns) (inside kids) ≡ []
none_within n ns [] gone = refl
none_within n ns (kid ∷ kids) gone = go (key_test n kid.0) refl gone (none_within n ns kids) where
  go : (b : Bool) → key_test n kid.0 ≡ b → cond b (Some kid.1) (lookup (key_test n) kids) ≡ None → (lookup (key_test n) kids ≡ None → rows_within (n ∷ ns) (inside kids) ≡ []) → rows_within (n ∷ ns) (map (below (string_bytes kid.0)) kid.1 ++ inside kids) ≡ []
  go true t gone later = absurd (cc)
  go false t gone later = other_within (string_bytes kid.0) n ns kid.1 (inside kids) (sym (is_eq-slice_cmp n (string_bytes kid.0)) ∙ t) ∙ later gone

all_outside : {A : Type 0} (n : Name) (ns : Path) (kids : List (String A × List Row)) → lookup (key_test n) kids ≡ None → rows_outside (n ∷ ns) (inside kids) ≡ inside kids
all_outside n ns [] gone = refl
all_outside n ns (kid ∷ kids) gone = go (key_test n kid.0) refl gone (all_outside n ns kids) where
  go : (b : Bool) → key_test n kid.0 ≡ b → cond b (Some kid.1) (lookup (key_test n) kids) ≡ None → (lookup (key_test n) kids ≡ None → rows_outside (n ∷ ns) (inside kids) ≡ inside kids) → rows_outside (n ∷ ns) (map (below (string_bytes kid.0)) kid.1 ++ inside kids) ≡ map (below (string_bytes kid.0)) kid.1 ++ inside kids
  go true t gone later = absurd (cc)
  go false t gone later = other_outside (string_bytes kid.0) n ns kid.1 (inside kids) (sym (is_eq-slice_cmp n (string_bytes kid.0)) ∙ t) ∙ ap (λ rest. map (below (string_bytes kid.0)) kid.1 ++ rest) (later gone)

-- later names are others
pub not_later : {A : Type 0} (m : Name) (kids : List (String A × List Row)) → AllByRecursion (λ y. slice_cmp nat_cmp m (string_bytes y) ≡ Less) (keys_of kids) → lookup (key_test m) kids ≡ None
not_later m [] all = refl
not_later m (kid ∷ kids) all = rw (all.0) (not_later m kids all.1)

pub outside_root : (rows : List Row) → rows_outside [] rows ≡ []
outside_root [] = refl
outside_root (r ∷ rs) = outside_root rs

pub within_root : (rows : List Row) → rows_within [] rows ≡ rows
within_root [] = refl
within_root (r ∷ rs) = ap (λ xs. r ∷ xs) (within_root rs)

pub name_of_key : {A : Type 0} (n : Name) (k : String A) → key_test n k ≡ true → n ≡ string_bytes k
name_of_key n k t = (bytes_eq-Decides n (string_bytes k)).0 (sym (is_eq-slice_cmp n (string_bytes k)) ∙ t)

pub other_key : {A : Type 0} (n : Name) (k : String A) → key_test n k ≡ false → bytes_eq n (string_bytes k) ≡ false
other_key n k t = sym (is_eq-slice_cmp n (string_bytes k)) ∙ t

-- what stays where a subtree keeps a part
pub outside_there : {A : Type 0} (n : Name) (ns : Path) (sub : List Row) (kids : List (String A × List Row)) → AreSorted kids → lookup (key_test n) kids ≡ Some sub → rows_outside (n ∷ ns) (inside kids) ≡ inside (set_value (key_test n) kids (rows_outside ns sub))
unfolding IsStrictlySortedBy
outside_there n ns sub [] sorted there = absurd (cc)
outside_there n ns sub (kid ∷ kids) sorted there = go (key_test n kid.0) refl there (outside_there n ns sub kids sorted.1) where
  go : (b : Bool) → key_test n kid.0 ≡ b → cond b (Some kid.1) (lookup (key_test n) kids) ≡ Some sub
      → (lookup (key_test n) kids ≡ Some sub → rows_outside (n ∷ ns) (inside kids) ≡ inside (set_value (key_test n) kids (rows_outside ns sub)))
      → rows_outside (n ∷ ns) (map (below (string_bytes kid.0)) kid.1 ++ inside kids) ≡ inside (cond b ((kid.0, rows_outside ns sub) ∷ kids) (kid ∷ set_value (key_test n) kids (rows_outside ns sub)))
  go true t there later =
      let own : kid.1 ≡ sub = cc in
      rw (name_of_key n kid.0 t, ← own)
      (this_outside (string_bytes kid.0) ns kid.1 (inside kids)
      ∙ ap (λ rest. map (below (string_bytes kid.0)) (rows_outside ns kid.1) ++ rest) (all_outside (string_bytes kid.0) ns kids (not_later (string_bytes kid.0) kids sorted.0)))
  go false t there later =
      other_outside (string_bytes kid.0) n ns kid.1 (inside kids) (other_key n kid.0 t)
      ∙ ap (λ rest. map (below (string_bytes kid.0)) kid.1 ++ rest) (later there)

-- what stays where a subtree goes as a whole
outside_removed : {A : Type 0} (n : Name) (kids : List (String A × List Row)) → AreSorted kids → rows_outside (n ∷ []) (inside kids) ≡ inside (remove_entry (key_test n) kids)
unfolding IsStrictlySortedBy
outside_removed n [] sorted = refl
outside_removed n (kid ∷ kids) sorted = go (key_test n kid.0) refl (outside_removed n kids sorted.1) where
  go : (b : Bool) → key_test n kid.0 ≡ b → rows_outside (n ∷ []) (inside kids) ≡ inside (remove_entry (key_test n) kids) → rows_outside (n ∷ []) (map (below (string_bytes kid.0)) kid.1 ++ inside kids) ≡ inside (cond b kids (kid ∷ remove_entry (key_test n) kids))
  go true t later =
      rw (name_of_key n kid.0 t)
      (this_outside (string_bytes kid.0) [] kid.1 (inside kids)
      ∙ ap (λ rows. map (below (string_bytes kid.0)) rows ++ rows_outside (string_bytes kid.0 ∷ []) (inside kids)) (outside_root kid.1)
      ∙ all_outside (string_bytes kid.0) [] kids (not_later (string_bytes kid.0) kids sorted.0))
  go false t later =
      other_outside (string_bytes kid.0) n [] kid.1 (inside kids) (other_key n kid.0 t) ∙ ap (λ rest. map (below (string_bytes kid.0)) kid.1 ++ rest) later

-- what goes
pub within_there : {A : Type 0} (n : Name) (ns : Path) (sub : List Row) (kids : List (String A × List Row)) → AreSorted kids → lookup (key_test n) kids ≡ Some sub → rows_within (n ∷ ns) (inside kids) ≡ map (below n) (rows_within ns sub)
unfolding IsStrictlySortedBy
within_there n ns sub [] sorted there = absurd (cc)
within_there n ns sub (kid ∷ kids) sorted there = go (key_test n kid.0) refl there (within_there n ns sub kids sorted.1) where
  go : (b : Bool) → key_test n kid.0 ≡ b → cond b (Some kid.1) (lookup (key_test n) kids) ≡ Some sub
      → (lookup (key_test n) kids ≡ Some sub → rows_within (n ∷ ns) (inside kids) ≡ map (below n) (rows_within ns sub))
      → rows_within (n ∷ ns) (map (below (string_bytes kid.0)) kid.1 ++ inside kids) ≡ map (below n) (rows_within ns sub)
  go true t there later =
      let own : kid.1 ≡ sub = cc in
      rw (name_of_key n kid.0 t, ← own)
      (this_within (string_bytes kid.0) ns kid.1 (inside kids)
      ∙ ap (λ rest. map (below (string_bytes kid.0)) (rows_within ns kid.1) ++ rest) (none_within (string_bytes kid.0) ns kids (not_later (string_bytes kid.0) kids sorted.0))
      ∙ append-nil (map (below (string_bytes kid.0)) (rows_within ns kid.1)))
  go false t there later = other_within (string_bytes kid.0) n ns kid.1 (inside kids) (other_key n kid.0 t) ∙ later there

pub under_cons : (n : Name) (ns : Path) (taken : Option (List Row)) → rows_under (n ∷ ns) taken ≡ map (below n) (rows_under ns taken)
under_cons n ns None = refl
under_cons n ns (Some rows) = each rows where
  each : (rows : List Row) → map (under (n ∷ ns)) rows ≡ map (below n) (map (under ns) rows)
  each [] = refl
  each (r ∷ rs) = ap (λ xs. under (n ∷ ns) r ∷ xs) (each rs)

pub under_root : (rows : List Row) → rows_under [] (Some rows) ≡ rows
under_root [] = refl
under_root (r ∷ rs) = ap (λ xs. r ∷ xs) (under_root rs)

-- an entry, and what is in it
top : Entry → List Row → List Row
top entry rest = record { path = []; entry = entry } ∷ rest

-- the same of the rows and the path as they are given
outside_is : {A : Type 0} (entry : Entry) (kids : List (String A × List Row)) (rows left : List Row) (path : Path) (n : Name) (ns : Path) → flat entry kids ≡ rows → path ≡ n ∷ ns → left ≡ rows_outside (n ∷ ns) (inside kids) → top entry left ≡ rows_outside path rows
unfolding top
outside_is entry kids rows left path n ns view is same =
    ap (top entry) same ∙ ap (λ p. rows_outside p (flat entry kids)) (sym is) ∙ ap (rows_outside path) view

within_is : {A : Type 0} (entry : Entry) (kids : List (String A × List Row)) (rows : List Row) (path : Path) (n : Name) (ns : Path) (taken : Option (List Row)) → flat entry kids ≡ rows → path ≡ n ∷ ns → rows_under (n ∷ ns) taken ≡ rows_within (n ∷ ns) (inside kids) → rows_under path taken ≡ rows_within path rows
within_is entry kids rows path n ns taken view is same =
    ap (λ p. rows_under p taken) is ∙ same ∙ ap (λ p. rows_within p (flat entry kids)) (sym is) ∙ ap (rows_within path) view

-- the whole list, where the subtree of the path's one name went
pub here_left : {A : Type 0} (entry : Entry) (kids later : List (String A × List Row)) (rows : List Row) (path : Path) (n : Name) (ns : Path) → flat entry kids ≡ rows → path ≡ n ∷ ns → ns ≡ [] → AreSorted kids → later ≡ remove_entry (key_test n) kids → flat entry later ≡ rows_outside path rows
unfolding top
here_left entry kids later rows path n ns view is alone sorted gone =
    outside_is entry kids rows (inside later) path n [] view (is ∙ ap (λ m. n ∷ m) alone) (ap inside gone ∙ sym (outside_removed n kids sorted))

pub here_taken : {A : Type 0} (entry : Entry) (kids : List (String A × List Row)) (rows : List Row) (path : Path) (n : Name) (ns : Path) (taken : Option (List Row)) → flat entry kids ≡ rows → path ≡ n ∷ ns → ns ≡ [] → AreSorted kids → taken ≡ lookup (key_test n) kids → rows_under path taken ≡ rows_within path rows
here_taken entry kids rows path n ns None view is alone sorted found =
    within_is entry kids rows path n [] None view (is ∙ ap (λ m. n ∷ m) alone) (sym (none_within n [] kids (sym found)))
here_taken entry kids rows path n ns (Some sub) view is alone sorted found =
    within_is entry kids rows path n [] (Some sub) view (is ∙ ap (λ m. n ∷ m) alone)
    (under_cons n [] (Some sub) ∙ ap (map (below n)) (under_root sub ∙ sym (within_root sub)) ∙ sym (within_there n [] sub kids sorted (sym found)))

-- where a part of a subtree went
pub there_left : {A : Type 0} (entry : Entry) (kids later : List (String A × List Row)) (rows sub made : List Row) (path : Path) (n : Name) (ns : Path) → flat entry kids ≡ rows → path ≡ n ∷ ns → AreSorted kids → Some sub ≡ lookup (key_test n) kids → later ≡ set_value (key_test n) kids made → made ≡ rows_outside ns sub → flat entry later ≡ rows_outside path rows
unfolding top
there_left entry kids later rows sub made path n ns view is sorted found through left =
    outside_is entry kids rows (inside later) path n ns view is
    (ap inside (through ∙ ap (set_value (key_test n) kids) left) ∙ sym (outside_there n ns sub kids sorted (sym found)))

pub there_taken : {A : Type 0} (entry : Entry) (kids : List (String A × List Row)) (rows sub : List Row) (path : Path) (n : Name) (ns : Path) (taken : Option (List Row)) → flat entry kids ≡ rows → path ≡ n ∷ ns → AreSorted kids → Some sub ≡ lookup (key_test n) kids → rows_under ns taken ≡ rows_within ns sub → rows_under path taken ≡ rows_within path rows
there_taken entry kids rows sub path n ns taken view is sorted found same =
    within_is entry kids rows path n ns taken view is (under_cons n ns taken ∙ ap (map (below n)) same ∙ sym (within_there n ns sub kids sorted (sym found)))

-- and where nothing was there
pub none_left : {A : Type 0} (entry : Entry) (kids later : List (String A × List Row)) (rows : List Row) (path : Path) (n : Name) (ns : Path) → flat entry kids ≡ rows → path ≡ n ∷ ns → None ≡ lookup (key_test n) kids → later ≡ kids → flat entry later ≡ rows_outside path rows
unfolding top
none_left entry kids later rows path n ns view is gone same =
    outside_is entry kids rows (inside later) path n ns view is (ap inside same ∙ sym (all_outside n ns kids (sym gone)))

pub none_taken : {A : Type 0} (entry : Entry) (kids : List (String A × List Row)) (rows : List Row) (path : Path) (n : Name) (ns : Path) → flat entry kids ≡ rows → path ≡ n ∷ ns → None ≡ lookup (key_test n) kids → rows_under path None ≡ rows_within path rows
none_taken entry kids rows path n ns view is gone = within_is entry kids rows path n ns None view is (sym (none_within n ns kids (sym gone)))
