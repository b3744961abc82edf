-- nodes that are different stay so when they change places, and so are the first of them
use Rattle.std.proofs.Common.{◌≡◌, ℕ, zero, suc, ◌≤◌, List, [], ◌∷◌, ◌++◌, length, take, drop, refl, arith, Bool, true, false, IsTrue}
use Rattle.std.specs.Prelude.{◌==◌, ◌&&◌, ◌||◌, not, nat_le}
use Rattle.std.specs.List.{AllByRecursion, IsDistinct}
use Rattle.std.specs.List.Sorted.{IsPermutation}
use Rattle.std.proofs.lemmas.Grind.{common_steps}
use Rattle.std.proofs.lemmas.Map.Keys.{IsDistinct-IsPermutation}
use Rattle.std.proofs.lemmas.List.Sorted.{IsPermutation-append_comm, IsPermutation-trans}
use Rattle.xt_base.specs.declared.ids.NodeId.{NodeId}
use Rattle.xt_base.specs.MemberList.{has_node, are_distinct, are_members}

abbrev same_id : NodeId → NodeId → Bool
same_id a b = b.0 == a.0

same_id-flips : (a b : NodeId) → same_id a b ≡ same_id b a
same_id-flips a b = grind (arith, common_steps)

neither : (a b : Bool) → (a || b) ≡ false → (a ≡ false) × (b ≡ false)
neither true b h = absurd (cc)
neither false b h = (refl, h)

absent : (v : ℕ) (xs : List NodeId) → has_node xs v ≡ false → AllByRecursion (λ y. (y.0 == v) ≡ false) xs
absent v [] h = tt
absent v (y ∷ ys) h = let parts = neither (y.0 == v) (has_node ys v) h in (parts.0, absent v ys parts.1)

not_there : (v : ℕ) (xs : List NodeId) → AllByRecursion (λ y. (y.0 == v) ≡ false) xs → has_node xs v ≡ false
not_there v [] h = refl
not_there v (y ∷ ys) h = rw h.0 (not_there v ys h.1)

both : (a b : Bool) → IsTrue (not a && b) → (a ≡ false) × IsTrue b
both true b h = absurd (cc)
both false b h = (refl, h)

distinct_from : (xs : List NodeId) → IsTrue (are_distinct xs) → IsDistinct same_id xs
unfolding IsDistinct
distinct_from [] h = tt
distinct_from (x ∷ xs) h = let parts = both (has_node xs x.0) (are_distinct xs) h in (absent x.0 xs parts.0, distinct_from xs parts.1)

distinct_back : (xs : List NodeId) → IsDistinct same_id xs → IsTrue (are_distinct xs)
unfolding IsDistinct
distinct_back [] h = refl
distinct_back (x ∷ xs) h = rw (not_there x.0 xs h.0) (distinct_back xs h.1)

all_take : (v k : ℕ) (xs : List NodeId) → AllByRecursion (λ y. (y.0 == v) ≡ false) xs → AllByRecursion (λ y. (y.0 == v) ≡ false) (take k xs)
all_take v zero xs h = tt
all_take v (suc k) [] h = tt
all_take v (suc k) (x ∷ xs) h = (h.0, all_take v k xs h.1)

distinct_take : (k : ℕ) (xs : List NodeId) → IsDistinct same_id xs → IsDistinct same_id (take k xs)
unfolding IsDistinct
distinct_take zero xs h = tt
distinct_take (suc k) [] h = tt
distinct_take (suc k) (x ∷ xs) h = (all_take x.0 k xs h.0, distinct_take k xs h.1)

three : (a b c : Bool) → a ≡ true → b ≡ true → IsTrue c → IsTrue (a && b && c)
three a b c e e' h = rw (e, e') h

-- one to nine of different nodes are members, in whatever order
pub members_of_permutation : (n : ℕ) (xs ys : List NodeId) → IsPermutation xs ys → IsTrue (are_distinct xs) → 1 ≤ n → n ≤ 9 → n ≤ length ys → IsTrue (are_members (take n ys))
members_of_permutation n xs ys moved different some few enough =
    let many : length (take n ys) ≡ n = grind (arith, common_steps) in
    three (nat_le 1 (length (take n ys))) (nat_le (length (take n ys)) 9) (are_distinct (take n ys))
    (grind (arith, common_steps)) (grind (arith, common_steps))
    (distinct_back (take n ys) (distinct_take n ys (IsDistinct-IsPermutation same_id same_id-flips xs ys moved (distinct_from xs different))))

-- a rotation moves elements alone
pub turned_permutation : (k : ℕ) (xs sorted turned : List NodeId) → IsPermutation xs sorted → turned ≡ drop k sorted ++ take k sorted → IsPermutation xs turned
turned_permutation k xs sorted turned moved is =
    let whole : take k sorted ++ drop k sorted ≡ sorted = grind (arith, common_steps) in
    let swapped = rw whole at (IsPermutation-append_comm (take k sorted) (drop k sorted)) in
    rw is (IsPermutation-trans xs sorted (drop k sorted ++ take k sorted) moved swapped)
