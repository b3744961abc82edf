-- Lists and their places.
use Rattle.std.proofs.Common.{◌≡◌, ℕ, zero, suc, List, [], ◌∷◌, ◌++◌, length, map, Some, refl, sym, ap, subst, inl, inr}
use Rattle.std.specs.Prelude.{slice_get}
use Rattle.replica_safety.specs.Lists.{Has, AreDistinct}
use Rattle.replica_runs.specs.HeadOrder.{last_of}

pub length_mapped : {A B : Type 0} (f : A → B) (xs : List A) → length (map f xs) ≡ length xs
length_mapped f [] = refl
length_mapped f (x ∷ xs) = ap suc (length_mapped f xs)

pub mapped_append : {A B : Type 0} (f : A → B) (xs ys : List A) → map f (xs ++ ys) ≡ map f xs ++ map f ys
mapped_append f [] ys = refl
mapped_append f (x ∷ xs) ys = ap (λ zs. f x ∷ zs) (mapped_append f xs ys)

pub get_mapped : {A B : Type 0} (f : A → B) (xs : List A) (i : ℕ) (x : A) → slice_get xs i ≡ Some x → slice_get (map f xs) i ≡ Some (f x)
get_mapped f [] i x is = absurd (cc)
get_mapped f (y ∷ xs) zero x is = (let same : y ≡ x = cc in ap (λ z. Some (f z)) same)
get_mapped f (y ∷ xs) (suc i) x is = get_mapped f xs i x is

pub get_last : (os : List (ℕ × ℕ)) (c : ℕ) → length os ≡ suc c → slice_get os c ≡ Some (last_of os)
get_last [] c is = absurd (cc)
get_last (x ∷ []) zero is = refl
get_last (x ∷ []) (suc c) is = absurd (cc)
get_last (x ∷ y ∷ os) zero is = absurd (cc)
get_last (x ∷ y ∷ os) (suc c) is = get_last (y ∷ os) c (cc)

pub got_has : {A : Type 0} (xs : List A) (i : ℕ) (x : A) → slice_get xs i ≡ Some x → Has x xs
got_has [] i x is = absurd (cc)
got_has (y ∷ xs) zero x is = inl (cc)
got_has (y ∷ xs) (suc i) x is = inr (got_has xs i x is)

-- an element of a list without repeats stands at one place
pub distinct_get : {A : Type 0} (xs : List A) (i j : ℕ) (x : A) → AreDistinct xs → slice_get xs i ≡ Some x → slice_get xs j ≡ Some x → i ≡ j
distinct_get [] i j x apart a b = absurd (cc)
distinct_get (y ∷ xs) zero zero x apart a b = refl
distinct_get (y ∷ xs) zero (suc j) x apart a b =
    (let same : y ≡ x = cc in absurd (apart.0 (subst (λ z. Has z xs) (sym same) (got_has xs j x b))))
distinct_get (y ∷ xs) (suc i) zero x apart a b =
    (let same : y ≡ x = cc in absurd (apart.0 (subst (λ z. Has z xs) (sym same) (got_has xs i x a))))
distinct_get (y ∷ xs) (suc i) (suc j) x apart a b = ap suc (distinct_get xs i j x apart.1 a b)

pub has_mapped : {A B : Type 0} (f : A → B) (xs : List A) (x : A) → Has x xs → Has (f x) (map f xs)
has_mapped f [] x has = absurd has
has_mapped f (y ∷ xs) x (inl same) = inl (ap f same)
has_mapped f (y ∷ xs) x (inr has) = inr (has_mapped f xs x has)
