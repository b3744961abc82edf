-- what a walk by the names of a path comes to
use Rattle.std.proofs.Common.{◌≡◌, ◌∙◌, ℕ, List, [], ◌∷◌, ◌++◌, map, length, take, refl, sym, ap, Bool, true, false, cond, append-nil, Bor, String}
use Rattle.std.specs.Prelude.{◌==◌, filter, Option, Some, None, IfNone, is_some}
use Rattle.std.specs.Str.{bytes_eq}
use Rattle.std.specs.String.{string_bytes}
use Rattle.std.specs.Ordering.{nat_cmp, is_lt}
use Rattle.std.specs.Cmp.Lexicographic.{slice_cmp}
use Rattle.std.specs.List.{cons_option}
use Rattle.std.specs.List.Sorted.{IsStrictlySortedBy}
use Rattle.std.specs.Map.{lookup}
use Rattle.std.proofs.lemmas.List.{length-map}
use Rattle.xt_messages.specs.declared.meta.MetaRefusal.{MetaRefusal}
use Rattle.xt_messages.specs.declared.meta.MetaRefusal.TheVariants as refusal
use Rattle.volume_rows.specs.declared.Asker.{Asker}
use Rattle.volume_rows.specs.declared.Entry.{Entry}
use Rattle.volume_rows.specs.Paths.{Name, Path, name_in, parent_of}
use Rattle.volume_rows.specs.Rows.{Row, entry_in, entry_at, names_in, page_of, rows_within}
use Rattle.volume_rows.specs.Rights.{first_of, passes, ancestors, ancestors_from, is_directory}
use Rattle.name_tree.specs.Trees.{below, inside, flat, HasPlace, SameKind}
use Rattle.name_tree.proofs.Below.{entry_of, find_inside}
use Rattle.name_tree.proofs.Putting.{AreSorted, key_test, name_same}
use Rattle.name_tree.proofs.Sound.{AllTrees, names_are, name_told}
use Rattle.name_tree.proofs.Taking.{none_within, within_there, not_later, name_of_key, other_key}

-- what is at a path is at the rest of it in the subtree of its first name
pub entry_there : {A : Type 0} (entry : Entry) (kids : List (String A × List Row)) (rows sub : List Row) (path : Path) (n : Name) (ns : Path) → flat entry kids ≡ rows → path ≡ n ∷ ns → AreSorted kids → Some sub ≡ lookup (key_test n) kids → entry_in rows path ≡ entry_in sub ns
entry_there entry kids rows sub path n ns view is sorted there = rw (← view, is) (find_inside n ns kids sorted ∙ ap (entry_of ns) (sym there))

-- a fact of the rows and the path as they are given
at : {B : Type 0} (f : List Row → Path → B) (given rows : List Row) (path names : Path) → given ≡ rows → path ≡ names → f rows path ≡ f given names
at f given rows path names view is = ap (f rows) is ∙ ap (λ (list : List Row). f list names) (sym view)

-- without the subtree nothing is within the path, and without anything within the rest neither
pub none_walked : {A : Type 0} (entry : Entry) (kids : List (String A × List Row)) (rows : List Row) (path : Path) (n : Name) (ns : Path) → flat entry kids ≡ rows → path ≡ n ∷ ns → None ≡ lookup (key_test n) kids → rows_within path rows ≡ []
none_walked entry kids rows path n ns view is gone = at (λ list p. rows_within p list) (flat entry kids) rows path (n ∷ ns) view is ∙ none_within n ns kids (sym gone)

pub none_there : {A : Type 0} (entry : Entry) (kids : List (String A × List Row)) (rows sub : List Row) (path : Path) (n : Name) (ns : Path) → flat entry kids ≡ rows → path ≡ n ∷ ns → AreSorted kids → Some sub ≡ lookup (key_test n) kids → rows_within ns sub ≡ [] → rows_within path rows ≡ []
none_there entry kids rows sub path n ns view is sorted there none = at (λ list p. rows_within p list) (flat entry kids) rows path (n ∷ ns) view is ∙ within_there n ns sub kids sorted (sym there) ∙ ap (map (below n)) none

pub if_none_weaker : {A P Q : Type 0} (o : Option A) → (P → Q) → IfNone o P → IfNone o Q
if_none_weaker None f h = f h
if_none_weaker (Some x) f h = tt

-- the names right in a directory are those in its subtree
names_other : (m n : Name) (ns : Path) (rows rest : List Row) → bytes_eq n m ≡ false → names_in (map (below m) rows ++ rest) (n ∷ ns) ≡ names_in rest (n ∷ ns)
names_other m n ns [] rest h = refl
names_other m n ns (r ∷ rs) rest h = rw h (names_other m n ns rs rest h)

names_this : (n : Name) (ns : Path) (rows rest : List Row) → names_in (map (below n) rows ++ rest) (n ∷ ns) ≡ names_in rows ns ++ names_in rest (n ∷ ns)
names_this n ns [] rest = refl
names_this n ns (r ∷ rs) rest = rw (name_same n) (go (name_in ns r.path) (names_this n ns rs rest)) where
  go : (o : Option Name) → names_in (map (below n) rs ++ rest) (n ∷ ns) ≡ names_in rs ns ++ names_in rest (n ∷ ns) → cons_option o (names_in (map (below n) rs ++ rest) (n ∷ ns)) ≡ cons_option o (names_in rs ns) ++ names_in rest (n ∷ ns)
  go None later = later
  go (Some name) later = ap (λ (xs : List Name). name ∷ xs) later

names_none : {A : Type 0} (n : Name) (ns : Path) (kids : List (String A × List Row)) → lookup (key_test n) kids ≡ None → names_in (inside kids) (n ∷ ns) ≡ []
names_none n ns [] gone = refl
names_none n ns (kid ∷ kids) gone = go (key_test n kid.0) refl gone (names_none n ns kids) where
  go : (b : Bool) → key_test n kid.0 ≡ b → cond b (Some kid.1) (lookup (key_test n) kids) ≡ None → (lookup (key_test n) kids ≡ None → names_in (inside kids) (n ∷ ns) ≡ []) → names_in (map (below (string_bytes kid.0)) kid.1 ++ inside kids) (n ∷ ns) ≡ []
  go true t gone later = absurd (cc)
  go false t gone later = names_other (string_bytes kid.0) n ns kid.1 (inside kids) (other_key n kid.0 t) ∙ later gone

names_there : {A : Type 0} (n : Name) (ns : Path) (sub : List Row) (kids : List (String A × List Row)) → AreSorted kids → lookup (key_test n) kids ≡ Some sub → names_in (inside kids) (n ∷ ns) ≡ names_in sub ns
unfolding IsStrictlySortedBy
names_there n ns sub [] sorted there = absurd (cc)
names_there n ns sub (kid ∷ kids) sorted there = go (key_test n kid.0) refl there (names_there n ns sub kids sorted.1) where
  go : (b : Bool) → key_test n kid.0 ≡ b → cond b (Some kid.1) (lookup (key_test n) kids) ≡ Some sub → (lookup (key_test n) kids ≡ Some sub → names_in (inside kids) (n ∷ ns) ≡ names_in sub ns) → names_in (map (below (string_bytes kid.0)) kid.1 ++ inside kids) (n ∷ ns) ≡ names_in sub ns
  go true t there later =
      let own : kid.1 ≡ sub = cc in
      rw (name_of_key n kid.0 t, ← own)
      (names_this (string_bytes kid.0) ns kid.1 (inside kids)
      ∙ ap (λ (rest : List Name). names_in kid.1 ns ++ rest) (names_none (string_bytes kid.0) ns kids (not_later (string_bytes kid.0) kids sorted.0))
      ∙ append-nil (names_in kid.1 ns))
  go false t there later = names_other (string_bytes kid.0) n ns kid.1 (inside kids) (other_key n kid.0 t) ∙ later there

pub names_walked : {A : Type 0} (entry : Entry) (kids : List (String A × List Row)) (rows sub : List Row) (path : Path) (n : Name) (ns : Path) → flat entry kids ≡ rows → path ≡ n ∷ ns → AreSorted kids → Some sub ≡ lookup (key_test n) kids → names_in rows path ≡ names_in sub ns
names_walked entry kids rows sub path n ns view is sorted there = at names_in (flat entry kids) rows path (n ∷ ns) view is ∙ names_there n ns sub kids sorted (sym there)

pub names_gone : {A : Type 0} (entry : Entry) (kids : List (String A × List Row)) (rows : List Row) (path : Path) (n : Name) (ns : Path) → flat entry kids ≡ rows → path ≡ n ∷ ns → None ≡ lookup (key_test n) kids → names_in rows path ≡ []
names_gone entry kids rows path n ns view is gone = at names_in (flat entry kids) rows path (n ∷ ns) view is ∙ names_none n ns kids (sym gone)

-- the names right in the top are those under which a subtree is
pub names_here : {A : Type 0} (entry : Entry) (kids : List (String A × List Row)) (rows : List Row) (path : Path) → flat entry kids ≡ rows → path ≡ [] → AllTrees kids → names_in rows path ≡ map name_told kids
names_here entry kids rows path view is trees = at names_in (flat entry kids) rows path [] view is ∙ names_are kids trees

pub count_here : {A : Type 0} (entry : Entry) (kids : List (String A × List Row)) (rows : List Row) (path : Path) (count : ℕ) → flat entry kids ≡ rows → path ≡ [] → AllTrees kids → count ≡ length kids → count ≡ length (names_in rows path)
count_here entry kids rows path count view is trees counted = counted ∙ sym (length-map kids name_told) ∙ ap length (sym (names_here entry kids rows path view is trees))

pub page_is : (rows sub : List Row) (path ns : Path) (after : Name) → names_in rows path ≡ names_in sub ns → page_of sub ns after ≡ page_of rows path after
page_is rows sub path ns after same = ap (λ (names : List Name). take 512 (filter (λ name. is_lt (slice_cmp nat_cmp after name)) names)) (sym same)

pub page_empty : (rows : List Row) (path : Path) (after : Name) → names_in rows path ≡ [] → [] ≡ page_of rows path after
page_empty rows path after none = ap (λ (names : List Name). take 512 (filter (λ name. is_lt (slice_cmp nat_cmp after name)) names)) (sym none)

-- names that are some have a first
pub first_name : (names : List (Bor (List ℕ))) → false ≡ (length names == 0) → (m : Name) × (ms : Path) × (map (λ name. name.now) names ≡ m ∷ ms)
first_name [] some = absurd (cc)
first_name (name ∷ names) some = (name.now, map (λ name. name.now) names, refl)

-- ancestors below a name are tested in its subtree
at_some : (rows : List Row) (above : Path) (name : Name) → entry_at rows (above ++ name ∷ []) ≡ entry_in rows (above ++ name ∷ [])
at_some rows [] name = refl
at_some rows (first ∷ above) name = refl

ancestors_below : {A : Type 0} (who : Asker) (entry : Entry) (kids : List (String A × List Row)) (sub : List Row) (n : Name) → AreSorted kids → Some sub ≡ lookup (key_test n) kids → (above path : Path) → ancestors_from who (flat entry kids) (n ∷ above) path ≡ ancestors_from who sub above path
ancestors_below who entry kids sub n sorted there above [] = refl
ancestors_below who entry kids sub n sorted there above (name ∷ []) = refl
ancestors_below who entry kids sub n sorted there above (name ∷ next ∷ names) =
    let here : entry_in (inside kids) (n ∷ (above ++ name ∷ [])) ≡ entry_at sub (above ++ name ∷ []) = find_inside n (above ++ name ∷ []) kids sorted ∙ ap (entry_of (above ++ name ∷ [])) (sym there) ∙ sym (at_some sub above name) in
    ap (λ (found : Option Entry). first_of (passes who found ∷ ancestors_from who (flat entry kids) (n ∷ (above ++ name ∷ [])) (next ∷ names) ∷ [])) here
    ∙ ap (λ (later : Option MetaRefusal). first_of (passes who (entry_at sub (above ++ name ∷ [])) ∷ later ∷ [])) (ancestors_below who entry kids sub n sorted there (above ++ name ∷ []) (next ∷ names))

pub ancestors_gone : {A : Type 0} (who : Asker) (entry : Entry) (kids : List (String A × List Row)) (rows : List Row) (path : Path) (n : Name) (ns : Path) (m : Name) (ms : Path) → flat entry kids ≡ rows → path ≡ n ∷ ns → ns ≡ m ∷ ms → AreSorted kids → None ≡ lookup (key_test n) kids → Some refusal.NotFound ≡ ancestors who rows path
ancestors_gone who entry kids rows path n ns m ms view is some sorted gone =
    let none : entry_in (inside kids) (n ∷ []) ≡ None = find_inside n [] kids sorted ∙ ap (entry_of []) (sym gone) in
    rw (← view, is, some) (ap (λ (found : Option Entry). first_of (passes who found ∷ ancestors_from who (flat entry kids) (n ∷ []) (m ∷ ms) ∷ [])) (sym none))

ancestors_there : {A : Type 0} (who : Asker) (entry : Entry) (kids : List (String A × List Row)) (rows sub : List Row) (path : Path) (n : Name) (ns : Path) (m : Name) (ms : Path) (own : Entry) → flat entry kids ≡ rows → path ≡ n ∷ ns → ns ≡ m ∷ ms → AreSorted kids → Some sub ≡ lookup (key_test n) kids → entry_in sub [] ≡ Some own → first_of (passes who (Some own) ∷ ancestors who sub ns ∷ []) ≡ ancestors who rows path
ancestors_there who entry kids rows sub path n ns m ms own view is some sorted there top =
    let here : entry_in (inside kids) (n ∷ []) ≡ Some own = find_inside n [] kids sorted ∙ ap (entry_of []) (sym there) ∙ top in
    rw (← view, is, some)
    (ap (λ (later : Option MetaRefusal). first_of (passes who (Some own) ∷ later ∷ [])) (sym (ancestors_below who entry kids sub n sorted there [] (m ∷ ms)))
    ∙ ap (λ (found : Option Entry). first_of (passes who found ∷ ancestors_from who (flat entry kids) (n ∷ []) (m ∷ ms) ∷ [])) (sym here))

turned : (test : Option MetaRefusal) (later : List (Option MetaRefusal)) → true ≡ is_some test → test ≡ first_of (test ∷ later)
turned None later some = absurd (cc)
turned (Some why) later some = refl

passed : (test later : Option MetaRefusal) → false ≡ is_some test → later ≡ first_of (test ∷ later ∷ [])
passed None None none = refl
passed None (Some why) none = refl
passed (Some why) later none = absurd (cc)

pub ancestors_turned : {A : Type 0} (who : Asker) (entry : Entry) (kids : List (String A × List Row)) (rows sub : List Row) (path : Path) (n : Name) (ns : Path) (m : Name) (ms : Path) (own : Entry) (test : Option MetaRefusal) → flat entry kids ≡ rows → path ≡ n ∷ ns → ns ≡ m ∷ ms → AreSorted kids → Some sub ≡ lookup (key_test n) kids → entry_in sub [] ≡ Some own → test ≡ passes who (Some own) → true ≡ is_some test → test ≡ ancestors who rows path
ancestors_turned who entry kids rows sub path n ns m ms own test view is some sorted there top tested turns =
    turned test (ancestors who sub ns ∷ []) turns
    ∙ ap (λ (t : Option MetaRefusal). first_of (t ∷ ancestors who sub ns ∷ [])) tested
    ∙ ancestors_there who entry kids rows sub path n ns m ms own view is some sorted there top

pub ancestors_passed : {A : Type 0} (who : Asker) (entry : Entry) (kids : List (String A × List Row)) (rows sub : List Row) (path : Path) (n : Name) (ns : Path) (m : Name) (ms : Path) (own : Entry) (test later : Option MetaRefusal) → flat entry kids ≡ rows → path ≡ n ∷ ns → ns ≡ m ∷ ms → AreSorted kids → Some sub ≡ lookup (key_test n) kids → entry_in sub [] ≡ Some own → test ≡ passes who (Some own) → false ≡ is_some test → later ≡ ancestors who sub ns → later ≡ ancestors who rows path
ancestors_passed who entry kids rows sub path n ns m ms own test later view is some sorted there top tested passes_on rest =
    rest
    ∙ passed test (ancestors who sub ns) passes_on
    ∙ ap (λ (t : Option MetaRefusal). first_of (t ∷ ancestors who sub ns ∷ [])) tested
    ∙ ancestors_there who entry kids rows sub path n ns m ms own view is some sorted there top

-- what replaces the top is a directory where it is one
pub kind_here : {A : Type 0} (entry made : Entry) (kids : List (String A × List Row)) (rows : List Row) (path : Path) → flat entry kids ≡ rows → path ≡ [] → SameKind (entry_in rows path) made → is_directory entry.content ≡ is_directory made.content
kind_here entry made kids rows path view is same = rw (← view, is) at same

-- a name right below a directory that is there is below a directory
pub place_directory : {A : Type 0} (entry : Entry) (kids : List (String A × List Row)) (rows : List Row) (path : Path) (n : Name) (ns : Path) → flat entry kids ≡ rows → path ≡ n ∷ ns → ns ≡ [] → HasPlace rows path → is_directory entry.content ≡ true
place_directory entry kids rows path n ns view is alone place = rw (← view, is, alone) at place

-- the directory of a path with two names at least is below the first
pub parent_below : (path : Path) (n : Name) (ns : Path) (m : Name) (ms : Path) → path ≡ n ∷ ns → ns ≡ m ∷ ms → parent_of path ≡ n ∷ parent_of ns
parent_below path n ns m ms is some = ap parent_of is ∙ ap (λ (names : Path). parent_of (n ∷ names)) some ∙ ap (λ (names : Path). n ∷ parent_of names) (sym some)
