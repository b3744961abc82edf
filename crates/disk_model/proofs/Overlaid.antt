-- A piece over bytes that were filled up with zeros as far as it goes.
use Rattle.std.proofs.Common.{◌≡◌, ◌⊎◌, inl, inr, ℕ, ◌+◌, ◌-◌, ◌<◌, ◌≤◌, List, ◌++◌, length, take, drop, sym, ◌∙◌, ap, ap₂, arith, length-append}
use Rattle.std.proofs.lemmas.Bool.{cases_lt}
use Rattle.std.proofs.lemmas.List.{append_assoc, append-nil, take_all, take-append-le, drop-append-le, drop_all, take-replicate, length-replicate}
use Rattle.std.proofs.Math.Seq.{take-append-add}
use Rattle.xt_base.specs.Overlay.{overlay, zeros}

front : (old : List ℕ) (place end : ℕ) → place ≤ end → take place (old ++ zeros (end - length old)) ≡ take place old ++ zeros (place - length old)
front old place end below = by_length (cases_lt (length old) place)
  where
    by_length : (length old < place) ⊎ (place ≤ length old) → take place (old ++ zeros (end - length old)) ≡ take place old ++ zeros (place - length old)
    by_length (inl past) =
        let gap = place - length old in
        let at : place ≡ length old + gap = omega (arith, past) in
        ap (λ (k : ℕ). take k (old ++ zeros (end - length old))) at
        ∙ take-append-add old (zeros (end - length old)) gap
        ∙ ap (λ (l : List ℕ). old ++ l) (take-replicate gap (end - length old) 0 (omega (arith, below)))
        ∙ ap (λ (l : List ℕ). l ++ zeros gap) (sym (take_all place old (omega (arith, past))))
    by_length (inr within) =
        let none : place - length old ≡ 0 = omega (arith, within) in
        take-append-le place old (zeros (end - length old)) within
        ∙ sym (append-nil (take place old))
        ∙ ap (λ (n : ℕ). take place old ++ zeros n) (sym none)

back : (old : List ℕ) (end : ℕ) → drop end (old ++ zeros (end - length old)) ≡ drop end old
back old end = by_length (cases_lt (length old) end)
  where
    by_length : (length old < end) ⊎ (end ≤ length old) → drop end (old ++ zeros (end - length old)) ≡ drop end old
    by_length (inl past) =
        let size = length-append old (zeros (end - length old)) in
        drop_all end (old ++ zeros (end - length old)) (omega (arith, past, size, length-replicate {A = ℕ} (end - length old) 0))
        ∙ sym (drop_all end old (omega (arith, past)))
    by_length (inr within) =
        let none : end - length old ≡ 0 = omega (arith, within) in
        drop-append-le end old (zeros (end - length old)) within
        ∙ ap (λ (n : ℕ). drop end old ++ zeros n) none
        ∙ append-nil (drop end old)

pub overlaid : (old piece filled : List ℕ) (place : ℕ) → filled ≡ old ++ zeros (place + length piece - length old)
    → take place filled ++ (piece ++ drop (place + length piece) filled) ≡ overlay old place piece
overlaid old piece filled place is =
    let end = place + length piece in
    ap₂ (λ (f b : List ℕ). f ++ (piece ++ b))
    (ap (take place) is ∙ front old place end (omega arith))
    (ap (drop end) is ∙ back old end)
    ∙ sym (append_assoc (take place old ++ zeros (place - length old)) piece (drop end old))
