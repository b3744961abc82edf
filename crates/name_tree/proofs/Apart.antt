-- trees that are taken apart: how many rows they have
use Rattle.std.proofs.Common.{◌≡◌, ◌∙◌, ℕ, ◌≤◌, ◌+◌, Bool, true, false, cond, List, [], ◌∷◌, ◌++◌, length, map, ap, arith, String, length-append}
use Rattle.std.proofs.lemmas.List.{length-map}
use Rattle.std.specs.String.{string_bytes}
use Rattle.volume_rows.specs.Rows.{Row}
use Rattle.name_tree.specs.Trees.{below, inside, rows_in}

pub rows_more : (trees : List (List Row)) (tree : List Row) → rows_in (trees ++ tree ∷ []) ≡ rows_in trees + length tree
rows_more [] tree = omega arith
rows_more (t ∷ ts) tree = let later = rows_more ts tree in omega (arith, later)

pub inside_more : {A : Type 0} (kid : String A × List Row) (kids : List (String A × List Row)) → length (inside (kid ∷ kids)) ≡ length kid.1 + length (inside kids)
inside_more kid kids = length-append (map (below (string_bytes kid.0)) kid.1) (inside kids) ∙ ap (λ (n : ℕ). n + length (inside kids)) (length-map kid.1 (below (string_bytes kid.0)))

-- a push that may fail
pub pushed_most : (done : Bool) (old new : List (List Row)) (tree : List Row) → new ≡ cond done (old ++ tree ∷ []) old → rows_in new ≤ rows_in old + length tree
pushed_most true old new tree is = let all = ap (λ (trees : List (List Row)). rows_in trees) is in let more = rows_more old tree in omega (arith, all, more)
pushed_most false old new tree is = let all = ap (λ (trees : List (List Row)). rows_in trees) is in omega (arith, all)
