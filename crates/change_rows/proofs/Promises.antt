-- the greatest promise is above each
use Rattle.std.proofs.Common.{◌≡◌, ℕ, ◌+◌, ◌≤◌, List, [], ◌∷◌, ◌++◌, ap, sym, arith, Option, Some, None, Bool, true, false}
use Rattle.std.specs.Prelude.{max, if◌then◌else◌}
use Rattle.std.specs.List.{fold, AllByRecursion}
use Rattle.std.specs.Option.{option_map}
use Rattle.std.proofs.lemmas.Grind.{fold-append}
use Rattle.xt_base.specs.declared.ids.NodeId.{NodeId}
use Rattle.xt_messages.specs.declared.file.FileHead.{FileHead}
use Rattle.change_rows.specs.declared.Choice.{Choice}
use Rattle.change_rows.specs.Changes.{ChangeState, is_ready, choice_of, best_in, greater_promise, greatest_promise}
use Rattle.change_rows.specs.Laws.{IsBelow, IsAbove}

max_left : (a b : ℕ) → a ≤ max a b
max_left a b = omega arith

max_right : (a b : ℕ) → b ≤ max a b
max_right a b = omega arith

-- what was greatest so far stays below
pub grows : (most : ℕ) (reports : List (NodeId × FileHead)) → most ≤ fold greater_promise most reports
grows most [] = omega arith
grows most (r ∷ rs) =
    let step : max most r.1.promised.number ≤ fold greater_promise (max most r.1.promised.number) rs = grows (max most r.1.promised.number) rs in
    omega (arith, max_left most r.1.promised.number)

-- one report more
pub greatest_push : (reports : List (NodeId × FileHead)) (r : NodeId × FileHead) → greatest_promise (reports ++ r ∷ []) ≡ max (greatest_promise reports) r.1.promised.number
greatest_push reports r = fold-append greater_promise 0 reports (r ∷ [])

-- each report is at most the greatest
all_at_most : (limit most : ℕ) (reports : List (NodeId × FileHead)) → fold greater_promise most reports ≤ limit → AllByRecursion (λ r. r.1.promised.number ≤ limit) reports
all_at_most limit most [] le = tt
all_at_most limit most (r ∷ rs) le =
    let step = max most r.1.promised.number in
    let here : step ≤ fold greater_promise step rs = grows step rs in
    (omega (arith, max_right most r.1.promised.number), all_at_most limit step rs le)

-- what is chosen is promised above the greatest
number_of : (c : ChangeState) (choice : Choice) (o : Option (NodeId × FileHead)) → option_map (choice_of c) o ≡ Some choice
    → choice.head.promised.number ≡ 1 + greatest_promise c.reports
number_of c choice None h = absurd cc
number_of c choice (Some best) h =
    let same : choice_of c best ≡ choice = cc in
    sym (ap (λ (made : Choice). made.head.promised.number) same)

number_at : (c : ChangeState) (choice : Choice) (b : Bool) → (if b then option_map (choice_of c) (best_in c.reports) else None) ≡ Some choice
    → choice.head.promised.number ≡ 1 + greatest_promise c.reports
number_at c choice true h = number_of c choice (best_in c.reports) h
number_at c choice false h = absurd cc

all_below : (choice : Choice) (limit : ℕ) (reports : List (NodeId × FileHead)) → choice.head.promised.number ≡ 1 + limit
    → AllByRecursion (λ r. r.1.promised.number ≤ limit) reports → AllByRecursion (IsBelow choice) reports
all_below choice limit [] is all = tt
all_below choice limit (r ∷ rs) is all =
    let one : r.1.promised.number ≤ limit = all.0 in
    (omega arith, all_below choice limit rs is all.1)

pub above : (c : ChangeState) → IsAbove c
above c now choice chosen =
    let most = greatest_promise c.reports in
    all_below choice most c.reports (number_at c choice (is_ready c now) chosen) (all_at_most most 0 c.reports (omega arith))
