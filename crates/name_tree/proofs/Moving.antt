-- what was at or below a path, moved to another one
use Rattle.std.proofs.Common.{◌≡◌, ◌∙◌, ℕ, ◌<◌, List, [], ◌∷◌, ◌++◌, map, length, drop, refl, sym, ap, subst, arith, Bool, true, false, cond, Bor}
use Rattle.std.specs.Prelude.{◌&&◌, not, filter, fold, Option, Some, None, IsSome, is_some}
use Rattle.std.specs.Str.{bytes_eq}
use Rattle.std.specs.Ordering.{is_lt}
use Rattle.std.proofs.lemmas.Slice.Eq.{bytes_eq-Decides}
use Rattle.volume_rows.specs.declared.Entry.{Entry}
use Rattle.volume_rows.specs.Paths.{Name, Path, same_path, path_cmp, is_within}
use Rattle.volume_rows.specs.Rows.{Row, entry_in, with_row, rows_within, rows_outside, moved, renamed}
use Rattle.name_tree.specs.Trees.{under, rows_under, grafted, SameKind, IsMoved}
use Rattle.name_tree.proofs.Removing.{entry_within, same_refl, same_within}

-- paths that are found to be one are one
pub same_path_is : (a b : Path) → same_path a b ≡ true → a ≡ b
same_path_is [] [] same = refl
same_path_is [] (m ∷ ms) same = absurd (cc)
same_path_is (n ∷ ns) [] same = absurd (cc)
same_path_is (n ∷ ns) (m ∷ ms) same = go (bytes_eq n m) refl same (same_path_is ns ms) where
  go : (b : Bool) → bytes_eq n m ≡ b → (b && same_path ns ms) ≡ true → (same_path ns ms ≡ true → ns ≡ ms) → n ∷ ns ≡ m ∷ ms
  go true e h later = ap (λ (x : Name). x ∷ ns) ((bytes_eq-Decides n m).0 e) ∙ ap (λ (xs : Path). m ∷ xs) (later h)
  go false e h later = absurd (cc)

-- a row that a test on paths drops isn't seen by it once it is put
with_dropped : (keep : Path → Bool) (row : Row) (rows : List Row) → keep row.path ≡ false → filter (λ r. keep r.path) (with_row rows row) ≡ filter (λ r. keep r.path) rows
with_dropped keep row [] drops = rw drops refl
with_dropped keep row (r ∷ rs) drops = go (same_path r.path row.path) refl (is_lt (path_cmp row.path r.path)) (with_dropped keep row rs drops) where
  kept : List Row → List Row
  kept rows = filter (λ r. keep r.path) rows

  go : (a : Bool) → same_path r.path row.path ≡ a → (b : Bool) → filter (λ s. keep s.path) (with_row rs row) ≡ filter (λ s. keep s.path) rs → filter (λ s. keep s.path) (cond a (row ∷ rs) (cond b (row ∷ r ∷ rs) (r ∷ with_row rs row))) ≡ filter (λ s. keep s.path) (r ∷ rs)
  go true e b later =
      let here : keep r.path ≡ false = ap keep (same_path_is r.path row.path e) ∙ drops in
      rw (drops, here) refl
  go false e true later = rw drops refl
  go false e false later = ap (λ (list : List Row). cond (keep r.path) (r ∷ list) list) later

-- tests in either order
tests_swap : (p q : Path → Bool) (rows : List Row) → filter (λ r. p r.path) (filter (λ r. q r.path) rows) ≡ filter (λ r. q r.path) (filter (λ r. p r.path) rows)
tests_swap p q [] = refl
tests_swap p q (r ∷ rs) = go (p r.path) refl (q r.path) refl (tests_swap p q rs) where
  go : (a : Bool) → p r.path ≡ a → (b : Bool) → q r.path ≡ b → filter (λ s. p s.path) (filter (λ s. q s.path) rs) ≡ filter (λ s. q s.path) (filter (λ s. p s.path) rs) → filter (λ s. p s.path) (cond b (r ∷ filter (λ s. q s.path) rs) (filter (λ s. q s.path) rs)) ≡ filter (λ s. q s.path) (cond a (r ∷ filter (λ s. p s.path) rs) (filter (λ s. p s.path) rs))
  go true e true f later = rw (e, f) (ap (λ (list : List Row). r ∷ list) later)
  go true e false f later = rw f later
  go false e true f later = rw e later
  go false e false f later = later

-- where nothing is within a path, all is outside it
all_out : (path : Path) (rows : List Row) → rows_within path rows ≡ [] → rows_outside path rows ≡ rows
all_out path [] none = refl
all_out path (r ∷ rs) none = go (is_within path r.path) none (all_out path rs) where
  go : (b : Bool) → cond b (r ∷ rows_within path rs) (rows_within path rs) ≡ [] → (rows_within path rs ≡ [] → rows_outside path rs ≡ rs) → cond (not b) (r ∷ rows_outside path rs) (rows_outside path rs) ≡ r ∷ rs
  go true h later = absurd (cc)
  go false h later = ap (λ (list : List Row). r ∷ list) (later h)

within_itself : (path : Path) → is_within path path ≡ true
within_itself path = same_within path path (same_refl path)

-- what is left once the place is made and the source taken: all outside the source
left_out : (rows : List Row) (from to : Path) (entry : Entry) → rows_within to rows ≡ [] → rows_outside to (rows_outside from (with_row rows (record { path = to; entry = entry }))) ≡ rows_outside from rows
left_out rows from to entry free =
    tests_swap (λ p. not (is_within to p)) (λ p. not (is_within from p)) (with_row rows (record { path = to; entry = entry }))
    ∙ ap (rows_outside from) (with_dropped (λ p. not (is_within to p)) (record { path = to; entry = entry }) rows (ap not (within_itself to)) ∙ all_out to rows free)

-- and what was taken: what was at or below the source
taken_as : (rows : List Row) (from to : Path) (entry : Entry) → is_within from to ≡ false → rows_within from (with_row rows (record { path = to; entry = entry })) ≡ rows_within from rows
taken_as rows from to entry apart = with_dropped (is_within from) (record { path = to; entry = entry }) rows apart

drop_front : (from p : Path) → drop (length from) (from ++ p) ≡ p
drop_front [] p = refl
drop_front (n ∷ ns) p = drop_front ns p

moved_under : (from to : Path) (node : List Row) → map (moved from to) (map (under from) node) ≡ map (under to) node
moved_under from to [] = refl
moved_under from to (r ∷ rs) = ap (λ (p : Path). record { path = to ++ p; entry = r.entry } ∷ map (moved from to) (map (under from) rs)) (drop_front from r.path) ∙ ap (λ (list : List Row). under to r ∷ list) (moved_under from to rs)

moved_rows : (rows node : List Row) (from to : Path) (entry : Entry) → is_within from to ≡ false → map (under from) node ≡ rows_within from (with_row rows (record { path = to; entry = entry })) → map (under to) node ≡ map (moved from to) (rows_within from rows)
moved_rows rows node from to entry apart taken = sym (moved_under from to node) ∙ ap (map (moved from to)) (taken ∙ taken_as rows from to entry apart)

-- the whole list after the move
pub move_is : (rows placed left new node : List Row) (from to : Path) (entry : Entry) → is_within from to ≡ false → rows_within to rows ≡ [] → placed ≡ with_row rows (record { path = to; entry = entry }) → left ≡ rows_outside from placed → rows_under from (Some node) ≡ rows_within from placed → new ≡ grafted left to node → new ≡ renamed rows from to
move_is rows placed left new node from to entry apart free made out taken put =
    put
    ∙ ap (λ (list : List Row). fold with_row (rows_outside to list) (map (under to) node)) (out ∙ ap (rows_outside from) made)
    ∙ ap (λ (list : List Row). fold with_row list (map (under to) node)) (left_out rows from to entry free)
    ∙ ap (fold with_row (rows_outside from rows)) (moved_rows rows node from to entry apart (taken ∙ ap (rows_within from) made))

pub moved_is : (rows placed left new node : List Row) (from to : Path) (entry : Entry) → is_within from to ≡ false → rows_within to rows ≡ [] → placed ≡ with_row rows (record { path = to; entry = entry }) → left ≡ rows_outside from placed → rows_under from (Some node) ≡ rows_within from placed → rows_outside to new ≡ rows_outside to left → rows_within to new ≡ map (under to) node → IsMoved rows new from to
moved_is rows placed left new node from to entry apart free made out taken others put = record {
  outside = others ∙ ap (rows_outside to) (out ∙ ap (rows_outside from) made) ∙ left_out rows from to entry free;
  within = put ∙ moved_rows rows node from to entry apart (taken ∙ ap (rows_within from) made);
}

-- the source is there to be taken
pub something_taken : (rows placed : List Row) (from to : Path) (entry : Entry) → is_within from to ≡ false → placed ≡ with_row rows (record { path = to; entry = entry }) → IsSome (entry_in rows from) → rows_under from None ≡ rows_within from placed → ⊥
something_taken rows placed from to entry apart made there none =
    let gone : entry_in rows from ≡ None = entry_within from rows ∙ ap (λ (list : List Row). entry_in list from) (sym (none ∙ ap (rows_within from) made ∙ taken_as rows from to entry apart)) in
    let some : is_some (entry_in rows from) ≡ true = there in
    (cc)

-- and the place is there
place_found : (rows : List Row) (row : Row) → entry_in (with_row rows row) row.path ≡ Some row.entry
place_found [] row = rw (same_refl row.path) refl
place_found (r ∷ rs) row = go (same_path r.path row.path) refl (is_lt (path_cmp row.path r.path)) (place_found rs row) where
  go : (a : Bool) → same_path r.path row.path ≡ a → (b : Bool) → entry_in (with_row rs row) row.path ≡ Some row.entry → entry_in (cond a (row ∷ rs) (cond b (row ∷ r ∷ rs) (r ∷ with_row rs row))) row.path ≡ Some row.entry
  go true e b later = rw (same_refl row.path) refl
  go false e true later = rw (same_refl row.path) refl
  go false e false later = rw e later

place_kept : (from to : Path) (rows : List Row) → is_within from to ≡ false → entry_in (rows_outside from rows) to ≡ entry_in rows to
place_kept from to [] apart = refl
place_kept from to (r ∷ rs) apart = go (is_within from r.path) refl (place_kept from to rs apart) where
  other : (b : Bool) → same_path r.path to ≡ b → is_within from r.path ≡ true → b ≡ false
  other true e inside = absurd (let same = same_path_is r.path to e in (cc))
  other false e inside = refl

  go : (b : Bool) → is_within from r.path ≡ b → entry_in (rows_outside from rs) to ≡ entry_in rs to → entry_in (cond (not b) (r ∷ rows_outside from rs) (rows_outside from rs)) to ≡ entry_in (r ∷ rs) to
  go true e later = rw (other (same_path r.path to) refl e) later
  go false e later = ap (λ (found : Option Entry). cond (same_path r.path to) (Some r.entry) found) later

pub place_stays : (rows placed left : List Row) (from to : Path) (entry : Entry) → is_within from to ≡ false → placed ≡ with_row rows (record { path = to; entry = entry }) → left ≡ rows_outside from placed → IsSome (entry_in left to)
place_stays rows placed left from to entry apart made out =
    let found : entry_in left to ≡ Some entry = ap (λ (list : List Row). entry_in list to) (out ∙ ap (rows_outside from) made) ∙ place_kept from to (with_row rows (record { path = to; entry = entry })) apart ∙ place_found rows (record { path = to; entry = entry }) in
    subst (λ (o : Option Entry). IsSome o) (sym found) refl

-- what isn't there is of any kind
pub free_kind : (rows : List Row) (path : Path) (entry : Entry) → rows_within path rows ≡ [] → SameKind (entry_in rows path) entry
free_kind rows path entry free =
    let gone : entry_in rows path ≡ None = entry_within path rows ∙ ap (λ (list : List Row). entry_in list path) free in
    subst (λ (o : Option Entry). SameKind o entry) (sym gone) tt

-- a path that isn't within another has names
pub apart_names : (from : List (Bor (List ℕ))) (to : Path) → is_within (map (λ name. name.now) from) to ≡ false → 0 < length from
apart_names [] to apart = absurd (cc)
apart_names (name ∷ names) to apart = omega arith
