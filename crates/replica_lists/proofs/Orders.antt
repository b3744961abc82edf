-- a list that is in order has one arrangement
use Rattle.std.proofs.Common.{◌≡◌, ◌∙◌, inl, inr, ℕ, suc, ◌+◌, ◌<◌, ◌≤◌, ◌%◌, List, [], ◌∷◌, ◌++◌, length, take, drop, get_or, refl, sym, ap, arith, cond, Bool, true, false, nat_eq, nat_lt}
use Rattle.std.proofs.lemmas.Grind.{common_steps}
use Rattle.std.proofs.lemmas.Bool.{cases_order, ltb-true, ltb-false}
use Rattle.std.proofs.lemmas.List.Sums.{sum_by-cons}
use Rattle.std.proofs.lemmas.List.Sorted.{sum_by-IsPermutation}
use Rattle.std.specs.List.{AllByRecursion, sum_by}
use Rattle.std.specs.List.Sorted.{IsPermutation, IsNonDecreasingBy}
use Rattle.xt_base.specs.declared.ids.NodeId.{NodeId}
use Rattle.replica_lists.specs.Picking.{placed, in_order, picked}

-- one where the node has this id
pub one_at : ℕ → NodeId → ℕ
one_at v n = cond (nat_eq n.0 v) 1 0

-- how many of the nodes have this id
abbrev count : ℕ → List NodeId → ℕ
count v xs = sum_by (one_at v) xs

count-cons : (v : ℕ) (x : NodeId) (xs : List NodeId) → count v (x ∷ xs) ≡ one_at v x + count v xs
count-cons v x xs = sum_by-cons (one_at v) x xs

-- no later node is below an earlier one
abbrev Rises : List NodeId → Type 0
Rises [] = Unit {0}
Rises (x ∷ xs) = AllByRecursion (λ y. x.0 ≤ y.0) xs × Rises xs

one_at-same : (x : NodeId) → one_at x.0 x ≡ 1
unfolding one_at
one_at-same x = grind (arith, common_steps)

one_at-other : (v : ℕ) (x : NodeId) → v < x.0 → one_at v x ≡ 0
unfolding one_at
one_at-other v x h = grind (arith, common_steps)

count_above : (v : ℕ) (xs : List NodeId) → AllByRecursion (λ y. v < y.0) xs → count v xs ≡ 0
count_above v [] h = refl
count_above v (x ∷ xs) h = omega (arith, count-cons v x xs, one_at-other v x h.0, count_above v xs h.1)

above : (v w : ℕ) → v < w → (xs : List NodeId) → AllByRecursion (λ y. w ≤ y.0) xs → AllByRecursion (λ y. v < y.0) xs
above v w h [] all = tt
above v w h (x ∷ xs) all = (omega (arith, all.0), above v w h xs all.1)

-- a first node that is below the other list's first one would stand once more in its list
not_below : (x y : NodeId) (xs ys : List NodeId) → AllByRecursion (λ n. y.0 ≤ n.0) ys → count x.0 (x ∷ xs) ≡ count x.0 (y ∷ ys) → x.0 < y.0 → ⊥
not_below x y xs ys all same h =
    omega (arith, same, count-cons x.0 x xs, one_at-same x, count-cons x.0 y ys, one_at-other x.0 y h, count_above x.0 ys (above x.0 y.0 h ys all))

first_same : (x y : NodeId) (xs ys : List NodeId) → Rises (x ∷ xs) → Rises (y ∷ ys) → ((v : ℕ) → count v (x ∷ xs) ≡ count v (y ∷ ys)) → x ≡ y
first_same x y xs ys up up' same =
    elim (cases_order x.0 y.0) [
      | inl e ↦ ap (λ n. record { 0 = n }) e
      | inr (inl h) ↦ absurd (not_below x y xs ys up'.0 (same x.0) h)
      | inr (inr h) ↦ absurd (not_below y x ys xs up.0 (sym (same y.0)) h)
    ]

same_count-tail : (x y : NodeId) (xs ys : List NodeId) → x ≡ y → ((v : ℕ) → count v (x ∷ xs) ≡ count v (y ∷ ys)) → (v : ℕ) → count v xs ≡ count v ys
same_count-tail x y xs ys e same v =
    let e' = ap (one_at v) e in
    omega (arith, same v, count-cons v x xs, count-cons v y ys, e')

-- lists that rise and have each id equally often are one
pub rising_same : (xs ys : List NodeId) → Rises xs → Rises ys → ((v : ℕ) → count v xs ≡ count v ys) → xs ≡ ys
rising_same [] [] up up' same = refl
rising_same [] (y ∷ ys) up up' same = absurd (omega (arith, same y.0, count-cons y.0 y ys, one_at-same y))
rising_same (x ∷ xs) [] up up' same = absurd (omega (arith, same x.0, count-cons x.0 x xs, one_at-same x))
rising_same (x ∷ xs) (y ∷ ys) up up' same =
    let e = first_same x y xs ys up up' same in
    ap (λ n. n ∷ xs) e ∙ ap (λ ns. y ∷ ns) (rising_same xs ys up.1 up'.1 (same_count-tail x y xs ys e same))

count-placed : (v : ℕ) (x : NodeId) (xs : List NodeId) → count v (placed x xs) ≡ one_at v x + count v xs
count-placed v x [] = count-cons v x []
count-placed v x (n ∷ ns) = go (count-placed v x ns) (nat_lt n.0 x.0) where
  go : count v (placed x ns) ≡ one_at v x + count v ns → (b : Bool) → count v (cond b (n ∷ placed x ns) (x ∷ n ∷ ns)) ≡ one_at v x + count v (n ∷ ns)
  go later true = omega (arith, count-cons v n (placed x ns), later, count-cons v n ns)
  go later false = count-cons v x (n ∷ ns)

count-in_order : (v : ℕ) (xs : List NodeId) → count v (in_order xs) ≡ count v xs
count-in_order v [] = refl
count-in_order v (x ∷ xs) = omega (arith, count-placed v x (in_order xs), count-in_order v xs, count-cons v x xs)

above_placed : (w : ℕ) (x : NodeId) (xs : List NodeId) → w ≤ x.0 → AllByRecursion (λ y. w ≤ y.0) xs → AllByRecursion (λ y. w ≤ y.0) (placed x xs)
above_placed w x [] h all = (h, tt)
above_placed w x (n ∷ ns) h all = go (above_placed w x ns h all.1) (nat_lt n.0 x.0) where
  go : AllByRecursion (λ y. w ≤ y.0) (placed x ns) → (b : Bool) → AllByRecursion (λ y. w ≤ y.0) (cond b (n ∷ placed x ns) (x ∷ n ∷ ns))
  go later true = (all.0, later)
  go later false = (h, all)

all_above : (v w : ℕ) → v ≤ w → (xs : List NodeId) → AllByRecursion (λ y. w ≤ y.0) xs → AllByRecursion (λ y. v ≤ y.0) xs
all_above v w h [] all = tt
all_above v w h (x ∷ xs) all = (omega (arith, all.0), all_above v w h xs all.1)

rises_placed : (x : NodeId) (xs : List NodeId) → Rises xs → Rises (placed x xs)
rises_placed x [] up = (tt, tt)
rises_placed x (n ∷ ns) up = go (rises_placed x ns up.1) (nat_lt n.0 x.0) refl where
  go : Rises (placed x ns) → (b : Bool) → nat_lt n.0 x.0 ≡ b → Rises (cond b (n ∷ placed x ns) (x ∷ n ∷ ns))
  go later true e = (above_placed n.0 x ns (omega (arith, ltb-true n.0 x.0 e)) up.0, later)
  go later false e = ((ltb-false n.0 x.0 e, all_above x.0 n.0 (ltb-false n.0 x.0 e) ns up.0), up)

rises_in_order : (xs : List NodeId) → Rises (in_order xs)
rises_in_order [] = tt
rises_in_order (x ∷ xs) = rises_placed x (in_order xs) (rises_in_order xs)

all_from : (v : ℕ) (xs : List NodeId) → ((j : ℕ) (d : NodeId) → j < length xs → v ≤ (get_or xs j d).0) → AllByRecursion (λ y. v ≤ y.0) xs
all_from v [] h = tt
all_from v (x ∷ xs) h = (h 0 x (omega arith), all_from v xs (λ j d l. h (suc j) d (omega arith)))

rises_from : (xs : List NodeId) → IsNonDecreasingBy (λ n. n.0) xs → Rises xs
rises_from [] up = tt
rises_from (x ∷ xs) up =
    (all_from x.0 xs (λ j d l. up 0 (suc j) d (omega arith) (omega arith)), rises_from xs (λ i j d h l. up (suc i) (suc j) d (omega arith) (omega arith)))

-- what a sort leaves is the list in order
pub in_order-sorted : (xs ys : List NodeId) → IsPermutation xs ys → IsNonDecreasingBy (λ n. n.0) ys → ys ≡ in_order xs
in_order-sorted xs ys moved up =
    rising_same ys (in_order xs) (rises_from ys up) (rises_in_order xs)
    (λ v. sum_by-IsPermutation (one_at v) xs ys moved ∙ sym (count-in_order v xs))

-- what a sort and a rotation leave of nodes is theirs, and its first ones are those that are picked
pub picked_from : (osds sorted turned members : List NodeId) (file n len : ℕ) → sorted ≡ in_order osds → len ≡ length osds → turned ≡ drop (file % len) sorted ++ take (file % len) sorted → members ≡ take n turned → members ≡ picked osds file n
picked_from osds sorted turned members file n len s l t m = cc
