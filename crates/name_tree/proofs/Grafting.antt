-- a tree in the place of a subtree
use Rattle.std.proofs.Common.{◌≡◌, ◌∙◌, List, [], ◌∷◌, ◌++◌, map, refl, sym, ap, subst, Bool, true, false, cond, append_assoc, append-nil, String}
use Rattle.std.specs.Prelude.{Some, None, IsSome, is_some, ◌&&◌, fold}
use Rattle.std.specs.Str.{bytes_eq}
use Rattle.std.specs.Ordering.{is_eq, ordering_reverse, ordering_then}
use Rattle.std.specs.declared.cmp.Ordering.{Ordering}
use Rattle.std.specs.declared.cmp.Ordering.TheVariants.{Less, Equal, Greater}
use Rattle.std.specs.List.{AllByRecursion}
use Rattle.std.specs.Map.{lookup, set_value}
use Rattle.std.proofs.lemmas.Map.{keys-set_value}
use Rattle.std.proofs.lemmas.Map.Text.{is_eq-slice_cmp}
use Rattle.std.specs.Cmp.{IsTotalOrder}
use Rattle.std.proofs.lemmas.Cmp.{nat_list_cmp_total, lists_total}
use Rattle.volume_rows.specs.declared.Entry.{Entry}
use Rattle.volume_rows.specs.Paths.{Name, Path, same_path, path_cmp}
use Rattle.volume_rows.specs.Rows.{Row, entry_in, with_row, rows_within, rows_outside}
use Rattle.name_tree.specs.Trees.{below, inside, flat, under, grafted, IsRising, IsTree}
use Rattle.name_tree.proofs.Below.{not_found}
use Rattle.name_tree.proofs.Putting.{AreSorted, key_test, name_cmp, put_back, with_inside_there}
use Rattle.name_tree.proofs.Sound.{rising_tree}
use Rattle.name_tree.proofs.Taking.{outside_there, within_there, under_cons, under_root, outside_root, within_root}

-- the name's subtree where it was set, and others by their names
set_found : {A : Type 0} (n : Name) (sub made : List Row) (kids : List (String A × List Row)) → lookup (key_test n) kids ≡ Some sub → lookup (key_test n) (set_value (key_test n) kids made) ≡ Some made
set_found n sub made [] there = absurd (cc)
set_found n sub made (kid ∷ kids) there = go (key_test n kid.0) refl there (set_found n sub made kids) where
  go : (b : Bool) → key_test n kid.0 ≡ b → cond b (Some kid.1) (lookup (key_test n) kids) ≡ Some sub → (lookup (key_test n) kids ≡ Some sub → lookup (key_test n) (set_value (key_test n) kids made) ≡ Some made) → lookup (key_test n) (cond b ((kid.0, made) ∷ kids) (kid ∷ set_value (key_test n) kids made)) ≡ Some made
  go true t there later = rw t refl
  go false t there later = rw t (later there)

set_twice : {A : Type 0} (n : Name) (one two : List Row) (kids : List (String A × List Row)) → set_value (key_test n) (set_value (key_test n) kids one) two ≡ set_value (key_test n) kids two
set_twice {A} n one two [] = refl
set_twice {A} n one two (kid ∷ kids) = go (key_test n kid.0) refl (set_twice n one two kids) where
  go : (b : Bool) → key_test n kid.0 ≡ b → set_value (key_test n) (set_value (key_test n) kids one) two ≡ set_value (key_test n) kids two → set_value (key_test n) (cond b ((kid.0, one) ∷ kids) (kid ∷ set_value (key_test n) kids one)) two ≡ cond b ((kid.0, two) ∷ kids) (kid ∷ set_value (key_test n) kids two)
  go true t later = rw t refl
  go false t later = rw t (ap (λ (ks : List (String A × List Row)). kid ∷ ks) later)

set_sorted : {A : Type 0} (n : Name) (made : List Row) (kids : List (String A × List Row)) → AreSorted kids → AreSorted (set_value (key_test n) kids made)
set_sorted n made kids sorted = rw (keys-set_value (key_test n) kids made) sorted

-- rows below a name, put in one after the other
fold_below : {A : Type 0} (n : Name) (xs sub : List Row) (kids : List (String A × List Row)) → AreSorted kids → lookup (key_test n) kids ≡ Some sub → fold with_row (inside kids) (map (below n) xs) ≡ inside (set_value (key_test n) kids (fold with_row sub xs))
fold_below n [] sub kids sorted there = ap inside (sym (put_back n sub kids there))
fold_below n (x ∷ xs) sub kids sorted there =
    ap (λ (list : List Row). fold with_row list (map (below n) xs)) (with_inside_there n x.path x.entry sub kids sorted there)
    ∙ fold_below n xs (with_row sub x) (set_value (key_test n) kids (with_row sub x)) (set_sorted n (with_row sub x) kids sorted) (set_found n sub (with_row sub x) kids there)
    ∙ ap inside (set_twice n (with_row sub x) (fold with_row (with_row sub x) xs) kids)

-- the row of a directory
abbrev head : Entry → Row
head entry = record { path = []; entry = entry }

fold_flat : (entry : Entry) (n : Name) (xs rest : List Row) → fold with_row (head entry ∷ rest) (map (below n) xs) ≡ head entry ∷ fold with_row rest (map (below n) xs)
fold_flat entry n [] rest = refl
fold_flat entry n (x ∷ xs) rest = fold_flat entry n xs (with_row rest (below n x))

-- two paths are one where they compare so
eq_then : (o p : Ordering) → is_eq (ordering_then o p) ≡ (is_eq o && is_eq p)
eq_then Less p = refl
eq_then Equal p = refl
eq_then Greater p = refl

pub same_cmp : (a b : Path) → is_eq (path_cmp a b) ≡ same_path a b
same_cmp [] [] = refl
same_cmp [] (m ∷ ms) = refl
same_cmp (n ∷ ns) [] = refl
same_cmp (n ∷ ns) (m ∷ ms) = eq_then (name_cmp n m) (path_cmp ns ms) ∙ ap (λ (b : Bool). b && is_eq (path_cmp ns ms)) (is_eq-slice_cmp n m) ∙ ap (λ (b : Bool). bytes_eq n m && b) (same_cmp ns ms)

pub path_total : IsTotalOrder path_cmp
path_total = lists_total nat_list_cmp_total

-- the last row of rising ones goes to the end
middle : (x y : Row) (xs ys : List Row) → AllByRecursion (λ s. path_cmp x.path s.path ≡ Less) (xs ++ y ∷ ys) → path_cmp x.path y.path ≡ Less
middle x y [] ys all = all.0
middle x y (z ∷ zs) ys all = middle x y zs ys all.1

with_last : (xs : List Row) (y : Row) (ys : List Row) → IsRising (xs ++ y ∷ ys) → with_row xs y ≡ xs ++ y ∷ []
with_last [] y ys rising = refl
with_last (x ∷ xs) y ys rising =
    let less : path_cmp x.path y.path ≡ Less = middle x y xs ys rising.0 in
    let other : same_path x.path y.path ≡ false = sym (same_cmp x.path y.path) ∙ ap is_eq less in
    let more : path_cmp y.path x.path ≡ Greater = path_total.antisymm y.path x.path ∙ ap ordering_reverse less in
    rw (other, more) (ap (λ (list : List Row). x ∷ list) (with_last xs y ys rising.1))

fold_rising : (xs ys : List Row) → IsRising (xs ++ ys) → fold with_row xs ys ≡ xs ++ ys
fold_rising xs [] rising = sym (append-nil xs)
fold_rising xs (y ∷ ys) rising =
    ap (λ (list : List Row). fold with_row list ys) (with_last xs y ys rising)
    ∙ fold_rising (xs ++ y ∷ []) ys (subst (λ (list : List Row). IsRising list) (sym (append_assoc xs (y ∷ []) ys)) rising)
    ∙ append_assoc xs (y ∷ []) ys

-- a tree in the place of the whole one
pub graft_root : (rows node : List Row) (p : Path) → p ≡ [] → IsTree node → node ≡ grafted rows p node
graft_root rows node p is tree =
    sym (fold_rising [] node (rising_tree node tree))
    ∙ ap (fold with_row []) (sym (under_root node))
    ∙ ap (λ (list : List Row). fold with_row list (map (under []) node)) (sym (outside_root rows))
    ∙ ap (λ (q : Path). grafted rows q node) (sym is)

pub root_outside : (rows node : List Row) (p : Path) → p ≡ [] → rows_outside p node ≡ rows_outside p rows
root_outside rows node p is = ap (λ (q : Path). rows_outside q node) is ∙ outside_root node ∙ sym (outside_root rows) ∙ ap (λ (q : Path). rows_outside q rows) (sym is)

pub root_within : (node : List Row) (p : Path) → p ≡ [] → rows_within p node ≡ map (under p) node
root_within node p is = ap (λ (q : Path). rows_within q node) is ∙ within_root node ∙ sym (under_root node) ∙ ap (λ (q : Path). map (under q) node) (sym is)

-- a tree that is put into the subtree of a path's first name
pub graft_there : {A : Type 0} (entry : Entry) (kids later : List (String A × List Row)) (rows sub made node : List Row) (path : Path) (n : Name) (ns : Path) → flat entry kids ≡ rows → path ≡ n ∷ ns → AreSorted kids → Some sub ≡ lookup (key_test n) kids → later ≡ set_value (key_test n) kids made → made ≡ grafted sub ns node → flat entry later ≡ grafted rows path node
graft_there {A} entry kids later rows sub made node path n ns view is sorted there through new =
    let left : List (String A × List Row) = set_value (key_test n) kids (rows_outside ns sub) in
    let put : List Row = map (under ns) node in
    ap (flat entry) (through ∙ ap (set_value (key_test n) kids) new ∙ sym (set_twice n (rows_outside ns sub) (grafted sub ns node) kids))
    ∙ ap (λ (list : List Row). head entry ∷ list) (sym (fold_below n put (rows_outside ns sub) left (set_sorted n (rows_outside ns sub) kids sorted) (set_found n sub (rows_outside ns sub) kids (sym there))))
    ∙ sym (fold_flat entry n put (inside left))
    ∙ ap (λ (list : List Row). fold with_row (head entry ∷ list) (map (below n) put)) (sym (outside_there n ns sub kids sorted (sym there)))
    ∙ ap (fold with_row (rows_outside (n ∷ ns) (flat entry kids))) (sym (under_cons n ns (Some node)))
    ∙ ap (λ (list : List Row). grafted list (n ∷ ns) node) view
    ∙ ap (λ (q : Path). grafted rows q node) (sym is)

pub outside_kept : {A : Type 0} (entry : Entry) (kids later : List (String A × List Row)) (rows sub made : List Row) (path : Path) (n : Name) (ns : Path) → flat entry kids ≡ rows → path ≡ n ∷ ns → AreSorted kids → Some sub ≡ lookup (key_test n) kids → later ≡ set_value (key_test n) kids made → rows_outside ns made ≡ rows_outside ns sub → rows_outside path (flat entry later) ≡ rows_outside path rows
outside_kept {A} entry kids later rows sub made path n ns view is sorted there through same =
    let set : List (String A × List Row) = set_value (key_test n) kids made in
    ap (λ (q : Path). rows_outside q (flat entry later)) is
    ∙ ap (λ (ks : List (String A × List Row)). rows_outside (n ∷ ns) (flat entry ks)) through
    ∙ ap (λ (list : List Row). head entry ∷ list)
    (outside_there n ns made set (set_sorted n made kids sorted) (set_found n sub made kids (sym there))
    ∙ ap inside (set_twice n made (rows_outside ns made) kids ∙ ap (set_value (key_test n) kids) same)
    ∙ sym (outside_there n ns sub kids sorted (sym there)))
    ∙ ap (rows_outside (n ∷ ns)) view
    ∙ ap (λ (q : Path). rows_outside q rows) (sym is)

pub within_grafted : {A : Type 0} (entry : Entry) (kids later : List (String A × List Row)) (sub made node : List Row) (path : Path) (n : Name) (ns : Path) → path ≡ n ∷ ns → AreSorted kids → Some sub ≡ lookup (key_test n) kids → later ≡ set_value (key_test n) kids made → rows_within ns made ≡ map (under ns) node → rows_within path (flat entry later) ≡ map (under path) node
within_grafted {A} entry kids later sub made node path n ns is sorted there through put =
    ap (λ (q : Path). rows_within q (flat entry later)) is
    ∙ ap (λ (ks : List (String A × List Row)). rows_within (n ∷ ns) (flat entry ks)) through
    ∙ within_there n ns made (set_value (key_test n) kids made) (set_sorted n made kids sorted) (set_found n sub made kids (sym there))
    ∙ ap (map (below n)) put
    ∙ sym (under_cons n ns (Some node))
    ∙ ap (λ (q : Path). map (under q) node) (sym is)

-- where no subtree of the first name is there, nothing is at the path
pub nothing_there : {A : Type 0} (entry : Entry) (kids : List (String A × List Row)) (rows : List Row) (path : Path) (n : Name) (ns : Path) → flat entry kids ≡ rows → path ≡ n ∷ ns → AreSorted kids → None ≡ lookup (key_test n) kids → IsSome (entry_in rows path) → ⊥
nothing_there entry kids rows path n ns view is sorted gone there =
    let none : entry_in rows path ≡ None = sym (not_found entry kids rows path n ns view is sorted gone) in
    let some : is_some (entry_in rows path) ≡ true = there in
    (cc)
