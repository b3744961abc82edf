-- rows, one after the other
use Rattle.std.proofs.Common.{◌≡◌, ℕ, ◌+◌, ◌<◌, ◌≤◌, ◌*◌, List, length, take, get_or, ap, ◌∙◌, sym, add_assoc, arith, ◌/◌, subst}
use Rattle.std.specs.Prelude.{sum, All}
use Rattle.std.proofs.lemmas.List.Sums.{sum_by_more, sum_by-le, sum_by-take-le}
use Rattle.std.proofs.lemmas.List.{take-take}
use Rattle.std.proofs.lemmas.Option.{unwrap_or-slice_get}
use Rattle.trace_drawing.specs.declared.rows.TheConstants.{ROW}
use Rattle.trace_drawing.specs.Drawn.{height_at}
use Rattle.trace_drawing.specs.Edges.{edge_at, row_middle}

pub edge_more : (top : ℕ) (heights : List ℕ) (i : ℕ) → i < length heights → edge_at top heights i + get_or heights i 0 ≡ edge_at top heights (i + 1)
edge_more top heights i h = add_assoc top (sum (take i heights)) (get_or heights i 0) ∙ ap (λ (n : ℕ). top + n) (sym (sum_by_more (λ (x : ℕ). x) heights i 0 h))

-- all rows together are no higher than so many of the highest
pub sum-le : (heights : List ℕ) (most : ℕ) → All (λ height. height ≤ most) heights → sum heights ≤ length heights * most
sum-le heights most low = sum_by-le (λ (x : ℕ). x) most heights low

-- an edge is no higher than a later one
edge-le : (top : ℕ) (heights : List ℕ) (i k : ℕ) → i ≤ k → edge_at top heights i ≤ edge_at top heights k
edge-le top heights i k h =
    let part = sum_by-take-le (λ (x : ℕ). x) (take k heights) i in
    let same = ap sum (take-take i k heights h) in
    omega (arith, part, same)

-- the row at a place ends so far below where it begins
edge_then : (top : ℕ) (heights : List ℕ) (k : ℕ) → k < length heights → edge_at top heights (k + 1) ≡ edge_at top heights k + height_at heights k
edge_then top heights k h = sym (edge_more top heights k h) ∙ ap (λ (n : ℕ). edge_at top heights k + n) (sym (unwrap_or-slice_get heights k 0))

-- rows that are shown go down
pub down :
    (top : ℕ) (heights : List ℕ) (j k : ℕ) → All (λ height. 0 < height → ROW ≤ height) heights → j < k → k < length heights
    → 0 < height_at heights j → 0 < height_at heights k → row_middle top heights j < row_middle top heights k
down top heights j k high order within first second =
    let between = edge-le top heights (j + 1) k (omega arith) in
    let before = edge_then top heights j (omega arith) in
    let after = edge_then top heights k within in
    let one = high_at j (omega arith) first in
    let other = high_at k within second in
    omega (arith, between, before, after, one, other)
  where
    high_at : (i : ℕ) → i < length heights → 0 < height_at heights i → ROW ≤ height_at heights i
    high_at i h shown =
        let at = unwrap_or-slice_get heights i 0 in
        subst (λ (n : ℕ). ROW ≤ n) (sym at) (high i 0 h (subst (λ (n : ℕ). 0 < n) at shown))
