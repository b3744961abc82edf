-- bytes that are made of bytes
use Rattle.std.proofs.Common.{◌≡◌, ℕ, zero, suc, ◌+◌, ◌-◌, List, [], ◌∷◌, ◌++◌, length, length-append, length-drop, take, drop, ap, ◌∙◌, ◌≤◌, arith}
use Rattle.std.proofs.lemmas.List.{length-take, length-replicate}
use Rattle.xt_base.specs.Overlay.{zeros, overlay, cut_or_filled}
use Rattle.client_limits.proofs.Bytes.{Each, each-append, each-take}

pub each-drop : (n : ℕ) (xs : List ℕ) → Each xs → Each (drop n xs)
each-drop zero xs each = each
each-drop (suc n) [] each = tt
each-drop (suc n) (x ∷ xs) each = each-drop n xs each.1

pub each-zeros : (n : ℕ) → Each (zeros n)
each-zeros zero = tt
each-zeros (suc n) = (omega arith, each-zeros n)

pub each-overlay : (old : List ℕ) (at : ℕ) (new : List ℕ) → Each old → Each new → Each (overlay old at new)
each-overlay old at new first second =
    each-append _ _ (each-append _ _ (each-append _ _ (each-take at old first) (each-zeros (at - length old))) second) (each-drop (at + length new) old first)

pub each-filled : (bytes : List ℕ) (size : ℕ) → Each bytes → Each (cut_or_filled bytes size)
each-filled bytes size each = each-append _ _ (each-take size bytes each) (each-zeros (size - length bytes))

pub length-filled : (bytes : List ℕ) (size : ℕ) → length (cut_or_filled bytes size) ≡ size
length-filled bytes size = omega (arith, length-append (take size bytes) (zeros (size - length bytes)), length-take size bytes, length-replicate {A = ℕ} (size - length bytes) 0)

-- the new bytes, and no more than both
pub length-overlay : (old : List ℕ) (at : ℕ) (new : List ℕ) (limit : ℕ) → length old ≤ limit → at + length new ≤ limit → (length new ≤ length (overlay old at new)) × (length (overlay old at new) ≤ limit)
length-overlay old at new limit few more =
    let first = take at old ++ zeros (at - length old) in
    let whole : length (overlay old at new) ≡ length first + length new + length (drop (at + length new) old) =
    length-append (first ++ new) (drop (at + length new) old) ∙ ap (λ (n : ℕ). n + length (drop (at + length new) old)) (length-append first new)
    in
    omega (arith, whole, length-append (take at old) (zeros (at - length old)), length-take at old, length-replicate {A = ℕ} (at - length old) 0, length-drop (at + length new) old)
