-- the numbers of files as rows change
use Rattle.std.proofs.Common.{◌≡◌, ◌∙◌, ℕ, ◌+◌, ◌≤◌, List, [], ◌∷◌, ◌++◌, map, drop, length, refl, sym, ap, arith, Bool, true, false, cond}
use Rattle.std.specs.Prelude.{◌==◌, ◌&&◌, Option, Some, None, not}
use Rattle.std.specs.Str.{bytes_eq}
use Rattle.std.specs.Ordering.{nat_cmp, is_eq, is_lt}
use Rattle.std.specs.declared.cmp.Ordering.{Ordering}
use Rattle.std.specs.declared.cmp.Ordering.TheVariants.{Less, Equal, Greater}
use Rattle.std.specs.List.{AllByRecursion, cons_option}
use Rattle.std.proofs.lemmas.Bool.Decides.{nat_tests}
use Rattle.std.proofs.lemmas.Slice.Eq.{bytes_eq-Decides}
use Rattle.xt_messages.specs.declared.meta.MetaRefusal.TheVariants as refusal
use Rattle.volume_rows.specs.declared.Entry.{Entry}
use Rattle.volume_rows.specs.declared.Stored.{Stored}
use Rattle.volume_rows.specs.declared.Content.{Content}
use Rattle.volume_rows.specs.declared.Content.TheVariants as content
use Rattle.volume_rows.specs.Paths.{Path, same_path, path_cmp, is_within}
use Rattle.volume_rows.specs.Rows.{Row, entry_in, with_row, rows_within, rows_outside, moved}
use Rattle.volume_rows.specs.Rights.{same_volume}
use Rattle.volume_rows.specs.Grants.{volume_id, volume_of, stored_of}
use Rattle.name_tree.specs.Trees.{IsRising, IsMoved}
use Rattle.name_tree.proofs.Grafting.{same_cmp, path_total}
use Rattle.name_tree.proofs.Moving.{same_path_is}
use Rattle.volume_tree.specs.declared.table.Sizes.{Sizes}
use Rattle.volume_tree.specs.Tables.{Kept, stored_sized, content_sized, row_sized, volume_if, volume_numbered, volumes_numbered}
use Rattle.volume_tree.proofs.Framing.{all_sized}

-- what is kept of one number is changed
abbrev pub Changes : ℕ → Option Sizes → Kept → Kept → Type 0
Changes number what kept new = (q : ℕ) → new q ≡ cond (is_eq (nat_cmp number q)) what (kept q)

cmp_is : (a b : ℕ) → is_eq (nat_cmp a b) ≡ (b == a)
cmp_is a b = grind (arith, nat_tests)

pub changed_other : (number : ℕ) (what : Option Sizes) (kept new : Kept) → Changes number what kept new → (q : ℕ) → (q == number) ≡ false → new q ≡ kept q
changed_other number what kept new changes q other = changes q ∙ ap (λ (b : Bool). cond b what (kept q)) (cmp_is number q ∙ other)

pub changed_here : (number : ℕ) (what : Option Sizes) (kept new : Kept) → Changes number what kept new → (q : ℕ) → (q == number) ≡ true → new q ≡ what
changed_here number what kept new changes q here = changes q ∙ ap (λ (b : Bool). cond b what (kept q)) (cmp_is number q ∙ here)

-- sizes don't change a file's number
pub number_sized : (o : Option Sizes) (stored : Stored) → (stored_sized o stored).number ≡ stored.number
number_sized None stored = refl
number_sized (Some sizes) stored = refl

pub volume_sized : (number : ℕ) (path : Path) (kept : Kept) (what : Content) → volume_if number path (stored_of (content_sized kept what)) ≡ volume_if number path (stored_of what)
volume_sized number path kept content.Directory = refl
volume_sized number path kept (content.File stored) = ap (λ (n : ℕ). cond (n == number) (Some (volume_of path)) None) (number_sized (kept stored.number) stored)

sized_twice : (o : Option Sizes) (stored : Stored) → stored_sized o (stored_sized o stored) ≡ stored_sized o stored
sized_twice None stored = refl
sized_twice (Some sizes) stored = refl

pub content_twice : (kept : Kept) (what : Content) → content_sized kept (content_sized kept what) ≡ content_sized kept what
content_twice kept content.Directory = refl
content_twice kept (content.File stored) =
    ap (λ (n : ℕ). content.File (stored_sized (kept n) (stored_sized (kept stored.number) stored))) (number_sized (kept stored.number) stored)
    ∙ ap (λ (s : Stored). content.File s) (sized_twice (kept stored.number) stored)

-- a path before rising rows is that of none of them
less_from_lt : (o : Ordering) → is_lt o ≡ true → o ≡ Less
less_from_lt Less h = refl
less_from_lt Equal h = absurd (cc)
less_from_lt Greater h = absurd (cc)

none_before : (path above : Path) (rows : List Row) → path_cmp path above ≡ Less → AllByRecursion (λ s. path_cmp above s.path ≡ Less) rows → entry_in rows path ≡ None
none_before path above [] less all = refl
none_before path above (r ∷ rs) less all =
    let before : path_cmp path r.path ≡ Less = path_total.trans path above r.path less all.0 in
    let other : same_path path r.path ≡ false = sym (same_cmp path r.path) ∙ ap is_eq before in
    let back : same_path r.path path ≡ false = flipped (same_path r.path path) refl other in
    rw back (none_before path above rs less all.1) where
      flipped : (b : Bool) → same_path r.path path ≡ b → same_path path r.path ≡ false → b ≡ false
      flipped true e other = absurd (let is = same_path_is r.path path e in let same = sym (ap (λ (p : Path). same_path p path) is) ∙ e in let also = ap (λ (p : Path). same_path path p) is ∙ same in (cc))
      flipped false e other = refl

-- the volume that an entry has at a path
abbrev pub volume_at : ℕ → Path → Option Entry → Option (List ℕ)
volume_at number path None = None
volume_at number path (Some entry) = volume_if number path (stored_of entry.content)

-- a row that has the number of the one in its place, or none, changes no numbers
pub numbers_put : (number : ℕ) (row : Row) (rows : List Row) → IsRising rows → volume_numbered number row ≡ volume_at number row.path (entry_in rows row.path) → volumes_numbered number (with_row rows row) ≡ volumes_numbered number rows
numbers_put number row [] rising same = ap (λ (o : Option (List ℕ)). cons_option o []) same
numbers_put number row (r ∷ rs) rising same = go (same_path r.path row.path) refl (is_lt (path_cmp row.path r.path)) refl same (numbers_put number row rs rising.1) where
  go : (a : Bool) → same_path r.path row.path ≡ a → (b : Bool) → is_lt (path_cmp row.path r.path) ≡ b → volume_numbered number row ≡ volume_at number row.path (cond a (Some r.entry) (entry_in rs row.path))
      → (volume_numbered number row ≡ volume_at number row.path (entry_in rs row.path) → volumes_numbered number (with_row rs row) ≡ volumes_numbered number rs)
      → volumes_numbered number (cond a (row ∷ rs) (cond b (row ∷ r ∷ rs) (r ∷ with_row rs row))) ≡ volumes_numbered number (r ∷ rs)
  go true e b f same later =
      ap (λ (o : Option (List ℕ)). cons_option o (volumes_numbered number rs)) (same ∙ ap (λ (p : Path). volume_if number p (stored_of r.entry.content)) (sym (same_path_is r.path row.path e)))
  go false e true f same later =
      let none : entry_in rs row.path ≡ None = none_before row.path r.path rs (less_from_lt (path_cmp row.path r.path) f) rising.0 in
      ap (λ (o : Option (List ℕ)). cons_option o (volumes_numbered number (r ∷ rs))) (same ∙ ap (volume_at number row.path) none)
  go false e false f same later = ap (cons_option (volume_numbered number r)) (later same)

-- where no file has a number, none of the rows does
pub first_none : (o : Option (List ℕ)) (rest : List (List ℕ)) → cons_option o rest ≡ [] → (o ≡ None) × (rest ≡ [])
first_none None rest none = (refl, none)
first_none (Some volume) rest none = absurd (cc)

pub numbers_added : (number : ℕ) (row : Row) (rows : List Row) (volume : List ℕ) → volumes_numbered number rows ≡ [] → volume_numbered number row ≡ Some volume → volumes_numbered number (with_row rows row) ≡ volume ∷ []
numbers_added number row [] volume none has = ap (λ (o : Option (List ℕ)). cons_option o []) has
numbers_added number row (r ∷ rs) volume none has = go (same_path r.path row.path) (is_lt (path_cmp row.path r.path)) (first_none (volume_numbered number r) (volumes_numbered number rs) none) (numbers_added number row rs volume) where
  go : (a b : Bool) → (volume_numbered number r ≡ None) × (volumes_numbered number rs ≡ []) → (volumes_numbered number rs ≡ [] → volume_numbered number row ≡ Some volume → volumes_numbered number (with_row rs row) ≡ volume ∷ []) → volumes_numbered number (cond a (row ∷ rs) (cond b (row ∷ r ∷ rs) (r ∷ with_row rs row))) ≡ volume ∷ []
  go true b empty later = ap (λ (o : Option (List ℕ)). cons_option o (volumes_numbered number rs)) has ∙ ap (λ (list : List (List ℕ)). volume ∷ list) empty.1
  go false true empty later = ap (λ (o : Option (List ℕ)). cons_option o (volumes_numbered number (r ∷ rs))) has ∙ ap (λ (list : List (List ℕ)). volume ∷ list) none
  go false false empty later = ap (λ (o : Option (List ℕ)). cons_option o (volumes_numbered number (with_row rs row))) empty.0 ∙ later empty.1 has

-- and changing what is kept of that number changes none of them
pub sized_alike : (number : ℕ) (kept new : Kept) (rows : List Row) → ((q : ℕ) → (q == number) ≡ false → new q ≡ kept q) → volumes_numbered number rows ≡ [] → all_sized new rows ≡ all_sized kept rows
sized_alike number kept new [] other none = refl
sized_alike number kept new (r ∷ rs) other none =
    let empty = first_none (volume_numbered number r) (volumes_numbered number rs) none in
    ap (λ (what : Content). record { path = r.path; entry = record r.entry { content = what } } ∷ all_sized new rs) (each r.entry.content empty.0)
    ∙ ap (λ (list : List Row). row_sized kept r ∷ list) (sized_alike number kept new rs other empty.1) where
      each : (what : Content) → volume_if number r.path (stored_of what) ≡ None → content_sized new what ≡ content_sized kept what
      each content.Directory h = refl
      each (content.File stored) h = ap (λ (o : Option Sizes). content.File (stored_sized o stored)) (other stored.number (go (stored.number == number) h)) where
        go : (b : Bool) → cond b (Some (volume_of r.path)) None ≡ None → b ≡ false
        go true h = absurd (cc)
        go false h = refl

pub sized_same : (kept new : Kept) (rows : List Row) → ((q : ℕ) → new q ≡ kept q) → all_sized new rows ≡ all_sized kept rows
sized_same kept new [] same = refl
sized_same kept new (r ∷ rs) same =
    ap (λ (what : Content). record { path = r.path; entry = record r.entry { content = what } } ∷ all_sized new rs) (each r.entry.content)
    ∙ ap (λ (list : List Row). row_sized kept r ∷ list) (sized_same kept new rs same) where
      each : (what : Content) → content_sized new what ≡ content_sized kept what
      each content.Directory = refl
      each (content.File stored) = ap (λ (o : Option Sizes). content.File (stored_sized o stored)) (same stored.number)

-- the numbers within a path and those outside it are all numbers
abbrev option_length : Option (List ℕ) → ℕ
option_length None = 0
option_length (Some volume) = 1

cons_length : (o : Option (List ℕ)) (rest : List (List ℕ)) → length (cons_option o rest) ≡ option_length o + length rest
cons_length None rest = omega arith
cons_length (Some volume) rest = omega arith

pub numbers_parted : (number : ℕ) (path : Path) (rows : List Row) → length (volumes_numbered number (rows_within path rows)) + length (volumes_numbered number (rows_outside path rows)) ≡ length (volumes_numbered number rows)
numbers_parted number path [] = refl
numbers_parted number path (r ∷ rs) = go (is_within path r.path) (numbers_parted number path rs) where
  go : (b : Bool) → length (volumes_numbered number (rows_within path rs)) + length (volumes_numbered number (rows_outside path rs)) ≡ length (volumes_numbered number rs) → length (volumes_numbered number (cond b (r ∷ rows_within path rs) (rows_within path rs))) + length (volumes_numbered number (cond (not b) (r ∷ rows_outside path rs) (rows_outside path rs))) ≡ length (volumes_numbered number (r ∷ rs))
  go true later =
      let one = cons_length (volume_numbered number r) (volumes_numbered number (rows_within path rs)) in
      let all = cons_length (volume_numbered number r) (volumes_numbered number rs) in
      omega (arith, later, one, all)
  go false later =
      let one = cons_length (volume_numbered number r) (volumes_numbered number (rows_outside path rs)) in
      let all = cons_length (volume_numbered number r) (volumes_numbered number rs) in
      omega (arith, later, one, all)

pub numbers_outside : (number : ℕ) (path : Path) (rows : List Row) → volumes_numbered number (rows_within path rows) ≡ [] → volumes_numbered number (rows_outside path rows) ≡ volumes_numbered number rows
numbers_outside number path [] none = refl
numbers_outside number path (r ∷ rs) none = go (is_within path r.path) none (numbers_outside number path rs) where
  go : (b : Bool) → volumes_numbered number (cond b (r ∷ rows_within path rs) (rows_within path rs)) ≡ [] → (volumes_numbered number (rows_within path rs) ≡ [] → volumes_numbered number (rows_outside path rs) ≡ volumes_numbered number rs) → volumes_numbered number (cond (not b) (r ∷ rows_outside path rs) (rows_outside path rs)) ≡ volumes_numbered number (r ∷ rs)
  go true h later =
      let empty = first_none (volume_numbered number r) (volumes_numbered number (rows_within path rs)) h in
      later empty.1 ∙ ap (λ (o : Option (List ℕ)). cons_option o (volumes_numbered number rs)) (sym empty.0)
  go false h later = ap (cons_option (volume_numbered number r)) (later h)

pub numbers_within : (number : ℕ) (path : Path) (rows : List Row) → volumes_numbered number (rows_outside path rows) ≡ [] → volumes_numbered number (rows_within path rows) ≡ volumes_numbered number rows
numbers_within number path [] none = refl
numbers_within number path (r ∷ rs) none = go (is_within path r.path) none (numbers_within number path rs) where
  go : (b : Bool) → volumes_numbered number (cond (not b) (r ∷ rows_outside path rs) (rows_outside path rs)) ≡ [] → (volumes_numbered number (rows_outside path rs) ≡ [] → volumes_numbered number (rows_within path rs) ≡ volumes_numbered number rs) → volumes_numbered number (cond b (r ∷ rows_within path rs) (rows_within path rs)) ≡ volumes_numbered number (r ∷ rs)
  go true h later = ap (cons_option (volume_numbered number r)) (later h)
  go false h later =
      let empty = first_none (volume_numbered number r) (volumes_numbered number (rows_outside path rs)) h in
      later empty.1 ∙ ap (λ (o : Option (List ℕ)). cons_option o (volumes_numbered number rs)) (sym empty.0)

pub no_length : (list : List (List ℕ)) → length list ≡ 0 → list ≡ []
no_length [] none = refl
no_length (x ∷ xs) none = absurd (omega arith)

-- rows with the same numbers within a path and outside it have the same ones, where there is one at most
pub numbers_alike : (number : ℕ) (from to : Path) (rows new : List Row) → volumes_numbered number (rows_within to new) ≡ volumes_numbered number (rows_within from rows) → volumes_numbered number (rows_outside to new) ≡ volumes_numbered number (rows_outside from rows) → length (volumes_numbered number rows) ≤ 1 → volumes_numbered number new ≡ volumes_numbered number rows
numbers_alike number from to rows new within outside one =
    go (volumes_numbered number (rows_within from rows)) refl where
      go : (list : List (List ℕ)) → volumes_numbered number (rows_within from rows) ≡ list → volumes_numbered number new ≡ volumes_numbered number rows
      go [] e = sym (numbers_outside number to new (within ∙ e)) ∙ outside ∙ numbers_outside number from rows e
      go (x ∷ xs) e =
          let parts = numbers_parted number from rows in
          let some : length (volumes_numbered number (rows_within from rows)) ≡ length (x ∷ xs) = ap length e in
          let none : volumes_numbered number (rows_outside from rows) ≡ [] = no_length (volumes_numbered number (rows_outside from rows)) (omega (arith, parts, some, one)) in
          sym (numbers_within number to new (outside ∙ none)) ∙ within ∙ numbers_within number from rows none

-- a row that is moved in its volume keeps it
volume_moved : (from to p : Path) → same_volume from to ≡ None → is_within from p ≡ true → volume_of (to ++ drop (length from) p) ≡ volume_of p
volume_moved [] to p same inside = absurd (cc)
volume_moved (v ∷ []) to p same inside = absurd (cc)
volume_moved (v ∷ n ∷ ns) [] p same inside = absurd (cc)
volume_moved (v ∷ n ∷ ns) (w ∷ []) p same inside = absurd (cc)
volume_moved (v ∷ n ∷ ns) (w ∷ m ∷ ms) [] same inside = absurd (cc)
volume_moved (v ∷ n ∷ ns) (w ∷ m ∷ ms) (x ∷ p) same inside = go (bytes_eq v w) refl same (bytes_eq v x) refl inside where
  go : (a : Bool) → bytes_eq v w ≡ a → cond a None (Some refusal.OtherVolume) ≡ None → (b : Bool) → bytes_eq v x ≡ b → (b && is_within (n ∷ ns) p) ≡ true → volume_id w ≡ volume_id x
  go false e h b f i = absurd (cc)
  go true e h false f i = absurd (cc)
  go true e h true f i = ap volume_id (sym ((bytes_eq-Decides v w).0 e) ∙ (bytes_eq-Decides v x).0 f)

numbers_moved : (number : ℕ) (from to : Path) (rows : List Row) → same_volume from to ≡ None → volumes_numbered number (map (moved from to) (rows_within from rows)) ≡ volumes_numbered number (rows_within from rows)
numbers_moved number from to [] same = refl
numbers_moved number from to (r ∷ rs) same = go (is_within from r.path) refl (numbers_moved number from to rs same) where
  each : (o : Option Stored) → is_within from r.path ≡ true → volume_if number (to ++ drop (length from) r.path) o ≡ volume_if number r.path o
  each None inside = refl
  each (Some stored) inside = ap (λ (volume : List ℕ). cond (stored.number == number) (Some volume) None) (volume_moved from to r.path same inside)

  go : (b : Bool) → is_within from r.path ≡ b → volumes_numbered number (map (moved from to) (rows_within from rs)) ≡ volumes_numbered number (rows_within from rs) → volumes_numbered number (map (moved from to) (cond b (r ∷ rows_within from rs) (rows_within from rs))) ≡ volumes_numbered number (cond b (r ∷ rows_within from rs) (rows_within from rs))
  go true e later =
      ap (λ (o : Option (List ℕ)). cons_option o (volumes_numbered number (map (moved from to) (rows_within from rs)))) (each (stored_of r.entry.content) e)
      ∙ ap (cons_option (volume_numbered number r)) later
  go false e later = later

pub numbers_renamed : (number : ℕ) (from to : Path) (rows new : List Row) → IsMoved rows new from to → same_volume from to ≡ None → length (volumes_numbered number rows) ≤ 1 → volumes_numbered number new ≡ volumes_numbered number rows
numbers_renamed number from to rows new moved same one =
    numbers_alike number from to rows new (ap (volumes_numbered number) moved.within ∙ numbers_moved number from to rows same) (ap (volumes_numbered number) moved.outside) one
