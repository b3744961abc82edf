-- lists in arrays of nine: what one more item, a change of each item, and a step of a loop over them make
use Rattle.std.proofs.Common.{◌≡◌, ◌∙◌, ℕ, zero, suc, ◌+◌, ◌-◌, ◌<◌, List, [], ◌∷◌, ◌++◌, length, map, take, drop, set, get_or, replicate, ap, sym, subst, append_assoc, arith, length-append, add-one}
use Rattle.std.proofs.Math.Seq.{take-append_seam, drop-append_seam, set-append_seam}
use Rattle.std.proofs.lemmas.List.{length-map}

-- a list of at most nine in its array
abbrev pub padded : {A : Type 0} → A → List A → List A
padded blank xs = xs ++ replicate (9 - length xs) blank

-- one more item takes the first blank
pub padded-push : {A : Type 0} (blank : A) (xs : List A) (x : A) → length xs < 9 → set (padded blank xs) (length xs) x ≡ padded blank (xs ++ x ∷ [])
padded-push blank xs x lt =
    let one_less : 9 - length xs ≡ suc (9 - length (xs ++ x ∷ [])) = omega (arith, length-append xs (x ∷ [])) in
    subst (λ (n : ℕ). set (xs ++ replicate n blank) (length xs) x ≡ padded blank (xs ++ x ∷ [])) (sym one_less)
    (set-append_seam xs blank (replicate (9 - length (xs ++ x ∷ [])) blank) x ∙ sym (append_assoc xs (x ∷ []) (replicate (9 - length (xs ++ x ∷ [])) blank)))

-- the items of the array
pub take-padded : {A : Type 0} (blank : A) (xs : List A) → take (length xs) (padded blank xs) ≡ xs
take-padded blank xs = take-append_seam xs (replicate (9 - length xs) blank)

-- a change of each item leaves the blanks
pub padded-map : {A : Type 0} (blank : A) (f : A → A) (xs : List A) → map f xs ++ drop (length xs) (padded blank xs) ≡ padded blank (map f xs)
padded-map blank f xs = simp (drop-append_seam, length-map)

-- one step of a loop that changes each item
pub map-step : {A : Type 0} (f : A → A) (xs : List A) (i : ℕ) (x : A) → i < length xs → x ≡ get_or (map f (take i xs) ++ drop i xs) i x → set (map f (take i xs) ++ drop i xs) i (f x) ≡ map f (take (suc i) xs) ++ drop (suc i) xs
map-step f [] i x lt is = absurd (omega arith)
map-step f (a ∷ xs) zero x lt is = ap (λ y. f y ∷ xs) is
map-step f (a ∷ xs) (suc i) x lt is = ap (λ ys. f a ∷ ys) (map-step f xs i x (omega arith) is)

-- the same where the list and the new item are known by equations
pub map-step-at : {A : Type 0} (f : A → A) (xs ys : List A) (i : ℕ) (x y : A) → i < length xs → ys ≡ map f (take i xs) ++ drop i xs → x ≡ get_or ys i x → y ≡ f (get_or ys i x) → set ys i y ≡ map f (take (i + 1) xs) ++ drop (i + 1) xs
map-step-at {A = A} f xs ys i x y lt so_far is new =
    let is_there : x ≡ get_or (map f (take i xs) ++ drop i xs) i x = subst (λ (zs : List A). x ≡ get_or zs i x) so_far is in
    let new_is : y ≡ f x = new ∙ ap f (sym is) in
    rw (new_is, so_far, add-one) (map-step f xs i x lt is_there)
