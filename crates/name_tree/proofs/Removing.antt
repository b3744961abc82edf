-- what is taken out where nothing is below a path
use Rattle.std.proofs.Common.{◌≡◌, ◌∙◌, List, [], ◌∷◌, ◌++◌, map, refl, ap, Bool, true, false, cond, append-nil}
use Rattle.std.specs.Prelude.{◌&&◌, not, Option, Some, None}
use Rattle.std.specs.Str.{bytes_eq}
use Rattle.std.specs.List.{cons_option}
use Rattle.volume_rows.specs.declared.Entry.{Entry}
use Rattle.volume_rows.specs.Paths.{Name, Path, same_path, is_within, name_in}
use Rattle.volume_rows.specs.Rows.{Row, entry_in, names_in, rows_within, rows_outside, without_row}
use Rattle.name_tree.specs.Trees.{under}
use Rattle.name_tree.proofs.Below.{bytes_eq-flip}
use Rattle.name_tree.proofs.Putting.{name_same}

-- a path is within itself
pub same_within : (path p : Path) → same_path p path ≡ true → is_within path p ≡ true
same_within [] p same = refl
same_within (n ∷ ns) [] same = absurd (cc)
same_within (n ∷ ns) (m ∷ ms) same = go (bytes_eq m n) refl same (same_within ns ms) where
  go : (b : Bool) → bytes_eq m n ≡ b → (b && same_path ms ns) ≡ true → (same_path ms ns ≡ true → is_within ns ms ≡ true) → (bytes_eq n m && is_within ns ms) ≡ true
  go true e h later = rw (bytes_eq-flip m n true e) (later h)
  go false e h later = absurd (cc)

pub not_same : (path p : Path) → is_within path p ≡ false → same_path p path ≡ false
not_same path p out = go (same_path p path) refl where
  go : (b : Bool) → same_path p path ≡ b → b ≡ false
  go true e = absurd (let inside = same_within path p e in (cc))
  go false e = refl

-- a row that isn't within a directory has no name in it
not_named : (path p : Path) → is_within path p ≡ false → name_in path p ≡ None
not_named [] p out = absurd (cc)
not_named (n ∷ ns) [] out = refl
not_named (n ∷ ns) (m ∷ ms) out = go (bytes_eq n m) out (not_named ns ms) where
  go : (b : Bool) → (b && is_within ns ms) ≡ false → (is_within ns ms ≡ false → name_in ns ms ≡ None) → cond b (name_in ns ms) None ≡ None
  go true h later = later h
  go false h later = refl

-- so what is at a path, and what is right in it, is within it
pub entry_within : (path : Path) (rows : List Row) → entry_in rows path ≡ entry_in (rows_within path rows) path
entry_within path [] = refl
entry_within path (r ∷ rs) = go (is_within path r.path) refl (entry_within path rs) where
  go : (b : Bool) → is_within path r.path ≡ b → entry_in rs path ≡ entry_in (rows_within path rs) path → entry_in (r ∷ rs) path ≡ entry_in (cond b (r ∷ rows_within path rs) (rows_within path rs)) path
  go true e later = ap (λ (found : Option Entry). cond (same_path r.path path) (Some r.entry) found) later
  go false e later = rw (not_same path r.path e) later

pub names_within : (path : Path) (rows : List Row) → names_in rows path ≡ names_in (rows_within path rows) path
names_within path [] = refl
names_within path (r ∷ rs) = go (is_within path r.path) refl (names_within path rs) where
  go : (b : Bool) → is_within path r.path ≡ b → names_in rs path ≡ names_in (rows_within path rs) path → names_in (r ∷ rs) path ≡ names_in (cond b (r ∷ rows_within path rs) (rows_within path rs)) path
  go true e later = ap (cons_option (name_in path r.path)) later
  go false e later = ap (λ (o : Option Name). cons_option o (names_in rs path)) (not_named path r.path e) ∙ later

-- without a row within a path, or with its own alone, to take out what is within is to take out its row
pub none_out : (path : Path) (rows : List Row) → rows_within path rows ≡ [] → rows_outside path rows ≡ without_row rows path
none_out path [] none = refl
none_out path (r ∷ rs) none = go (is_within path r.path) refl none (none_out path rs) where
  go : (b : Bool) → is_within path r.path ≡ b → cond b (r ∷ rows_within path rs) (rows_within path rs) ≡ [] → (rows_within path rs ≡ [] → rows_outside path rs ≡ without_row rs path) → cond (not b) (r ∷ rows_outside path rs) (rows_outside path rs) ≡ without_row (r ∷ rs) path
  go true e h later = absurd (cc)
  go false e h later = rw (not_same path r.path e) (ap (λ (xs : List Row). r ∷ xs) (later h))

pub one_out : (path : Path) (row : Row) (rows : List Row) → rows_within path rows ≡ row ∷ [] → same_path row.path path ≡ true → rows_outside path rows ≡ without_row rows path
one_out path row [] one same = absurd (cc)
one_out path row (r ∷ rs) one same = go (is_within path r.path) refl one (λ h. one_out path row rs h same) where
  go : (b : Bool) → is_within path r.path ≡ b → cond b (r ∷ rows_within path rs) (rows_within path rs) ≡ row ∷ [] → (rows_within path rs ≡ row ∷ [] → rows_outside path rs ≡ without_row rs path) → cond (not b) (r ∷ rows_outside path rs) (rows_outside path rs) ≡ without_row (r ∷ rs) path
  go true e h later =
      let first : r ≡ row = cc in
      let rest : rows_within path rs ≡ [] = cc in
      let here : same_path r.path path ≡ true = ap (λ (x : Row). same_path x.path path) first ∙ same in
      rw here (none_out path rs rest)
  go false e h later = rw (not_same path r.path e) (ap (λ (xs : List Row). r ∷ xs) (later h))

pub same_refl : (path : Path) → same_path path path ≡ true
same_refl [] = refl
same_refl (n ∷ ns) = rw (name_same n) (same_refl ns)

-- the names in a subtree, where it stood
under_name : (path p : Path) → name_in path (path ++ p) ≡ name_in [] p
under_name [] p = refl
under_name (n ∷ ns) p = rw (name_same n) (under_name ns p)

pub under_names : (path : Path) (rows : List Row) → names_in (map (under path) rows) path ≡ names_in rows []
under_names path [] = refl
under_names path (r ∷ rs) = ap (λ (o : Option Name). cons_option o (names_in (map (under path) rs) path)) (under_name path r.path) ∙ ap (cons_option (name_in [] r.path)) (under_names path rs)

pub top_path : (path : Path) (top : Row) → top.path ≡ [] → same_path (path ++ top.path) path ≡ true
top_path path top at_top = ap (λ (p : Path). same_path (path ++ p) path) at_top ∙ ap (λ (p : Path). same_path p path) (append-nil path) ∙ same_refl path
