-- what a page has so far, and what is left for it
use Rattle.std.proofs.Common.{◌≡◌, ◌∙◌, ℕ, ◌+◌, ◌≤◌, List, [], ◌∷◌, ◌++◌, length, take, map, sym, ap, arith, append-nil, append_assoc, length-append, take_all}
use Rattle.std.specs.Prelude.{filter}
use Rattle.std.proofs.Math.Seq.{take-append_seam}
use Rattle.xt_messages.specs.declared.registry.RegistryRow.{RegistryRow}
use Rattle.registry_table.specs.declared.registry.Registered.{Registered}
use Rattle.registry_table.specs.Registry.{Rows, shown, is_listed}

-- the rows of a kind after a node, as they are reported
abbrev pub told_after : Rows → ℕ → ℕ → List RegistryRow
told_after rows kind after = map shown (filter (is_listed kind after) rows)

-- a page of so many rows, the last of which is of this node, and all rows of the list
pub record SoFar (rows : Rows) (kind last : ℕ) (page : List RegistryRow) (count : ℕ) (all : List RegistryRow) : Type 0 where
  pub many : length page ≡ count
  pub whole : all ≡ page ++ told_after rows kind last

-- nothing is on the page yet
pub start : (rows : Rows) (kind after : ℕ) (page : List RegistryRow) → page ≡ [] → SoFar rows kind after page 0 (told_after rows kind after)
start rows kind after page none = record { many = ap length none; whole = ap (λ p. p ++ told_after rows kind after) (sym none) }

-- one more row
pub more : (rows : Rows) (kind last : ℕ) (row : ℕ × Registered) (page new : List RegistryRow) (count : ℕ) (all : List RegistryRow) → SoFar rows kind last page count all
    → filter (is_listed kind last) rows ≡ row ∷ filter (is_listed kind row.0) rows → new ≡ page ++ shown row ∷ [] → SoFar rows kind row.0 new (count + 1) all
more rows kind last row page new count all so_far next pushed =
    record {
      many = ap length pushed ∙ length-append page (shown row ∷ []) ∙ ap (λ n. n + 1) so_far.many;
      whole =
          so_far.whole ∙ ap (λ rest. page ++ map shown rest) next ∙ sym (append_assoc page (shown row ∷ []) (told_after rows kind row.0))
          ∙ ap (λ p. p ++ told_after rows kind row.0) (sym pushed);
    }

-- no rows are left
pub at_end : (rows : Rows) (kind last : ℕ) (page : List RegistryRow) (count : ℕ) (all : List RegistryRow) → SoFar rows kind last page count all → count ≤ 256 → filter (is_listed kind last) rows ≡ []
    → page ≡ take 256 all
at_end rows kind last page count all so_far few none =
    let whole : all ≡ page = so_far.whole ∙ ap (λ rest. page ++ map shown rest) none ∙ append-nil page in
    let short : length page ≤ 256 = omega (arith, so_far.many, few) in
    sym (ap (take 256) whole ∙ take_all 256 page short)

-- the page is full
pub at_full : (rows : Rows) (kind last : ℕ) (page : List RegistryRow) (count : ℕ) (all : List RegistryRow) → SoFar rows kind last page count all → count ≡ 256 → page ≡ take 256 all
at_full rows kind last page count all so_far full =
    let cut : take (length page) all ≡ page = ap (take (length page)) so_far.whole ∙ take-append_seam page (told_after rows kind last) in
    sym cut ∙ ap (λ n. take n all) (so_far.many ∙ full)
