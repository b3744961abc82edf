-- what a tree's flat list has below each name
use Rattle.std.proofs.Common.{◌≡◌, ◌∙◌, List, [], ◌∷◌, ◌++◌, map, refl, sym, ap, Bool, true, false, cond, String}
use Rattle.std.specs.Prelude.{Option, Some, None}
use Rattle.std.specs.Str.{bytes_eq}
use Rattle.std.specs.String.{string_bytes}
use Rattle.std.specs.Ordering.{nat_cmp, is_eq}
use Rattle.std.specs.Cmp.Lexicographic.{slice_cmp}
use Rattle.std.specs.declared.cmp.Ordering.TheVariants.{Less}
use Rattle.std.specs.List.{AllByRecursion}
use Rattle.std.specs.List.Sorted.{IsStrictlySortedBy}
use Rattle.std.specs.Map.{lookup, keys_of}
use Rattle.std.proofs.lemmas.Map.Text.{is_eq-slice_cmp}
use Rattle.std.proofs.lemmas.Slice.Eq.{bytes_eq-Decides}
use Rattle.volume_rows.specs.declared.Entry.{Entry}
use Rattle.volume_rows.specs.Paths.{Name, Path, same_path}
use Rattle.volume_rows.specs.Rows.{Row, entry_in}
use Rattle.name_tree.specs.Trees.{below, inside, flat}

-- the entry below a name, if there is a subtree of that name
abbrev pub entry_of : Path → Option (List Row) → Option Entry
entry_of path None = None
entry_of path (Some rows) = entry_in rows path

-- the first of two entries
abbrev or_else : Option Entry → Option Entry → Option Entry
or_else None other = other
or_else (Some entry) other = Some entry

-- rows below another name aren't at this path
other_name : (m n : Name) (ns : Path) (rows rest : List Row) → bytes_eq m n ≡ false → entry_in (map (below m) rows ++ rest) (n ∷ ns) ≡ entry_in rest (n ∷ ns)
other_name m n ns [] rest h = refl
other_name m n ns (r ∷ rs) rest h = rw h (other_name m n ns rs rest h)

-- rows below this name are at the rest of the path
this_name : (m n : Name) (ns : Path) (rows rest : List Row) → bytes_eq m n ≡ true → entry_in (map (below m) rows ++ rest) (n ∷ ns) ≡ or_else (entry_in rows ns) (entry_in rest (n ∷ ns))
this_name m n ns [] rest h = refl
this_name m n ns (r ∷ rs) rest h = rw h (go (same_path r.path ns) (this_name m n ns rs rest h)) where
  go : (b : Bool) → entry_in (map (below m) rs ++ rest) (n ∷ ns) ≡ or_else (entry_in rs ns) (entry_in rest (n ∷ ns)) → cond b (Some r.entry) (entry_in (map (below m) rs ++ rest) (n ∷ ns)) ≡ or_else (cond b (Some r.entry) (entry_in rs ns)) (entry_in rest (n ∷ ns))
  go true later = refl
  go false later = later

pub bytes_eq-flip : (a b : Name) (r : Bool) → bytes_eq a b ≡ r → bytes_eq b a ≡ r
bytes_eq-flip a b true h = (bytes_eq-Decides b a).1 (sym ((bytes_eq-Decides a b).0 h))
bytes_eq-flip a b false h = go (bytes_eq b a) refl where
  go : (r : Bool) → bytes_eq b a ≡ r → r ≡ false
  go true e = sym ((bytes_eq-Decides a b).1 (sym ((bytes_eq-Decides b a).0 e))) ∙ h
  go false e = refl

-- a name that is below another one is another name
pub apart : (a b : Name) → slice_cmp nat_cmp a b ≡ Less → bytes_eq a b ≡ false
apart a b h = sym (is_eq-slice_cmp a b) ∙ ap is_eq h

-- nothing of this name is below later names
later_names : {A : Type 0} (m n : Name) (ns : Path) (kids : List (String A × List Row)) → AllByRecursion (λ y. slice_cmp nat_cmp m (string_bytes y) ≡ Less) (keys_of kids) → bytes_eq m n ≡ true → entry_in (inside kids) (n ∷ ns) ≡ None
later_names m n ns [] all same = refl
later_names m n ns (kid ∷ kids) all same =
    let differs : bytes_eq n (string_bytes kid.0) ≡ false = ap (λ a. bytes_eq a (string_bytes kid.0)) (sym ((bytes_eq-Decides m n).0 same)) ∙ apart m (string_bytes kid.0) all.0 in
    other_name (string_bytes kid.0) n ns kid.1 (inside kids) (bytes_eq-flip n (string_bytes kid.0) false differs) ∙ later_names m n ns kids all.1 same

or_none : (entry : Option Entry) → or_else entry None ≡ entry
or_none None = refl
or_none (Some entry) = refl

-- the entry below a name is that of the subtree of the name
pub find_inside : {A : Type 0} (n : Name) (ns : Path) (kids : List (String A × List Row)) → IsStrictlySortedBy (λ a b. slice_cmp nat_cmp (string_bytes a) (string_bytes b)) (keys_of kids) → entry_in (inside kids) (n ∷ ns) ≡ entry_of ns (lookup (λ k. is_eq (slice_cmp nat_cmp n (string_bytes k))) kids)
unfolding IsStrictlySortedBy
find_inside n ns [] sorted = refl
find_inside n ns (kid ∷ kids) sorted =
    rw (is_eq-slice_cmp n (string_bytes kid.0)) (go (find_inside n ns kids sorted.1) (bytes_eq n (string_bytes kid.0)) refl) where
      go : entry_in (inside kids) (n ∷ ns) ≡ entry_of ns (lookup (λ k. is_eq (slice_cmp nat_cmp n (string_bytes k))) kids) → (b : Bool) → bytes_eq n (string_bytes kid.0) ≡ b → entry_in (map (below (string_bytes kid.0)) kid.1 ++ inside kids) (n ∷ ns) ≡ entry_of ns (cond b (Some kid.1) (lookup (λ k. is_eq (slice_cmp nat_cmp n (string_bytes k))) kids))
      go later true e =
          let same = bytes_eq-flip n (string_bytes kid.0) true e in
          this_name (string_bytes kid.0) n ns kid.1 (inside kids) same
          ∙ ap (or_else (entry_in kid.1 ns)) (later_names (string_bytes kid.0) n ns kids sorted.0 same)
          ∙ or_none (entry_in kid.1 ns)
      go later false e =
          other_name (string_bytes kid.0) n ns kid.1 (inside kids) (bytes_eq-flip n (string_bytes kid.0) false e) ∙ later

-- what a walk finds where there is a subtree of the first name
pub found : {A : Type 0} (entry : Entry) (kids : List (String A × List Row)) (rows sub : List Row) (path : Path) (n : Name) (ns : Path) (result : Option Entry) → flat entry kids ≡ rows → path ≡ n ∷ ns → IsStrictlySortedBy (λ a b. slice_cmp nat_cmp (string_bytes a) (string_bytes b)) (keys_of kids) → Some sub ≡ lookup (λ k. is_eq (slice_cmp nat_cmp n (string_bytes k))) kids → result ≡ entry_in sub ns → result ≡ entry_in rows path
found entry kids rows sub path n ns result view is sorted there later =
    rw (← view, is) (later ∙ ap (entry_of ns) there ∙ sym (find_inside n ns kids sorted))

-- and where there is none
pub not_found : {A : Type 0} (entry : Entry) (kids : List (String A × List Row)) (rows : List Row) (path : Path) (n : Name) (ns : Path) → flat entry kids ≡ rows → path ≡ n ∷ ns → IsStrictlySortedBy (λ a b. slice_cmp nat_cmp (string_bytes a) (string_bytes b)) (keys_of kids) → None ≡ lookup (λ k. is_eq (slice_cmp nat_cmp n (string_bytes k))) kids → None ≡ entry_in rows path
not_found entry kids rows path n ns view is sorted gone =
    rw (← view, is) (ap (entry_of ns) gone ∙ sym (find_inside n ns kids sorted))
