-- the verdicts on the files of a trace
use Rattle.std.proofs.Common.{◌≡◌, Result, Ok, IfOk, List, [], ◌∷◌, map, refl, subst}
use Rattle.std.specs.List.{AllZip}

-- results that a function gives, and that are all good, are its values
pub zip_oks : {A B E : Type 0} (R : A → Result B E → Type 0) (h : A → B) → ((x : A) (y : Result B E) → R x y → IfOk y (λ v. v ≡ h x)) → (xs : List A) (ys : List (Result B E)) (vs : List B) → AllZip R xs ys → ys ≡ map Ok vs → vs ≡ map h xs
zip_oks R h is [] [] [] all same = refl
zip_oks R h is [] [] (v ∷ vs) all same = absurd cc
zip_oks R h is [] (y ∷ ys) vs all same = absurd all
zip_oks R h is (x ∷ xs) [] vs all same = absurd all
zip_oks R h is (x ∷ xs) (y ∷ ys) [] all same = absurd cc
zip_oks R h is (x ∷ xs) (y ∷ ys) (v ∷ vs) all same =
    let first : y ≡ Ok v = cc in
    let tails : ys ≡ map Ok vs = cc in
    let one : v ≡ h x = subst (λ r. IfOk r (λ w. w ≡ h x)) first (is x y all.0) in
    let rest : vs ≡ map h xs = zip_oks R h is xs ys vs all.1 tails in
    cc
