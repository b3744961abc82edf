-- what a page has so far, and what is left for it
use Rattle.std.proofs.Common.{◌≡◌, ◌∙◌, ℕ, ◌≤◌, List, [], ◌∷◌, ◌++◌, length, take, map, refl, sym, ap, arith, Bool, true, false, cond, append-nil, take_all, String}
use Rattle.std.specs.Prelude.{filter, ◌&&◌, not}
use Rattle.std.specs.String.{string_bytes, string_cmp}
use Rattle.std.specs.Ordering.{nat_cmp, is_lt}
use Rattle.std.specs.declared.cmp.Ordering.{Ordering}
use Rattle.std.specs.declared.cmp.Ordering.TheVariants.{Less, Equal, Greater}
use Rattle.std.specs.Cmp.Lexicographic.{slice_cmp}
use Rattle.std.specs.BTreeMap.Range.{entries_between}
use Rattle.std.specs.declared.ops.Bound.TheVariants.{Excluded, Unbounded}
use Rattle.std.proofs.Math.Seq.{take-append_seam}
use Rattle.volume_rows.specs.declared.Entry.{Entry}
use Rattle.volume_rows.specs.Paths.{Name}
use Rattle.volume_rows.specs.Rows.{Row, names_in}
use Rattle.name_tree.specs.Trees.{flat}
use Rattle.name_tree.proofs.Sound.{AllTrees, name_told}
use Rattle.name_tree.proofs.Walking.{names_here}

-- the names above one
abbrev pub above : Name → List Name → List Name
above after names = filter (λ name. is_lt (slice_cmp nat_cmp after name)) names

-- a page, the entries that are left, and all names of the list
pub record SoFar {A : Type 0} (page : List Name) (left : List (String A × List Row)) (all : List Name) : Type 0 where
  pub few : length page ≤ 512
  pub whole : all ≡ page ++ map name_told left

bounded : (o : Ordering) → (is_lt o && not false) ≡ is_lt o
bounded Less = refl
bounded Equal = refl
bounded Greater = refl

above_told : {A : Type 0} (key : String A) (kids : List (String A × List Row)) → above (string_bytes key) (map name_told kids) ≡ map name_told (entries_between string_cmp (Excluded key) Unbounded kids)
above_told key [] = refl
above_told key (kid ∷ kids) = rw (bounded (string_cmp key kid.0)) (go (is_lt (string_cmp key kid.0)) (above_told key kids)) where
  go : (b : Bool) → above (string_bytes key) (map name_told kids) ≡ map name_told (entries_between string_cmp (Excluded key) Unbounded kids) → cond b (name_told kid ∷ above (string_bytes key) (map name_told kids)) (above (string_bytes key) (map name_told kids)) ≡ map name_told (cond b (kid ∷ entries_between string_cmp (Excluded key) Unbounded kids) (entries_between string_cmp (Excluded key) Unbounded kids))
  go true later = ap (λ (names : List Name). name_told kid ∷ names) later
  go false later = later

-- nothing is on the page yet, and the entries after the key are left
pub start : {A : Type 0} (after : Name) (key : String A) (page : List Name) (entry : Entry) (kids left : List (String A × List Row)) (rows : List Row) → flat entry kids ≡ rows → AllTrees kids → string_bytes key ≡ after → page ≡ [] → left ≡ entries_between string_cmp (Excluded key) Unbounded kids → SoFar page left (above after (names_in rows []))
start after key page entry kids left rows view trees named none range =
    rw (none, range, ← named) (record { few = omega arith; whole = ap (above (string_bytes key)) (names_here entry kids rows [] view refl trees) ∙ above_told key kids })

-- no entries are left
pub at_end : {A : Type 0} (page : List Name) (left : List (String A × List Row)) (all : List Name) → SoFar page left all → left ≡ [] → page ≡ take 512 all
at_end {A} page left all so_far none =
    let whole : all ≡ page = so_far.whole ∙ ap (λ (kids : List (String A × List Row)). page ++ map name_told kids) none ∙ append-nil page in
    rw whole (sym (take_all 512 page so_far.few))

-- the page is full
pub at_full : {A : Type 0} (page : List Name) (left : List (String A × List Row)) (all : List Name) → SoFar page left all → length page ≡ 512 → page ≡ take 512 all
at_full page left all so_far full =
    let cut : take (length page) all ≡ page = ap (take (length page)) so_far.whole ∙ take-append_seam page (map name_told left) in
    sym cut ∙ ap (λ (n : ℕ). take n all) full
