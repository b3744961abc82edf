-- bytes of which those from one place up to another were read ahead
use Rattle.std.proofs.Common.{◌≡◌, ◌∙◌, ◌≤◌, ◌+◌, ◌-◌, ℕ, List, ◌++◌, length, take, drop, ap, sym, arith}
use Rattle.std.proofs.lemmas.List.{take-append-drop, take-take, drop-drop, drop-take, length-take}

-- how many are taken is no more than how many places there are
short : (bytes : List ℕ) (place filled count : ℕ) → count ≤ length (take (filled - place) (drop place bytes)) → count ≤ filled - place
short bytes place filled count few = omega (arith, length-take (filled - place) (drop place bytes))

-- the front that is taken, and what is left
pub taken : (bytes : List ℕ) (place filled count : ℕ) → count ≤ length (take (filled - place) (drop place bytes))
    → drop place bytes ≡ take count (take (filled - place) (drop place bytes)) ++ drop (place + count) bytes
taken bytes place filled count few =
    let cut = take-take count (filled - place) (drop place bytes) (short bytes place filled count few) in
    rw cut (sym (take-append-drop count (drop place bytes)) ∙ ap (λ rest. take count (drop place bytes) ++ rest) (drop-drop count place bytes))

-- what is ahead then
pub still_ahead : (bytes : List ℕ) (place filled count : ℕ) → count ≤ length (take (filled - place) (drop place bytes))
    → take (filled - (place + count)) (drop (place + count) bytes) ≡ drop count (take (filled - place) (drop place bytes))
still_ahead bytes place filled count few =
    let less = short bytes place filled count few in
    let parts : filled - place ≡ count + (filled - (place + count)) = omega arith in
    ap (take (filled - (place + count))) (sym (drop-drop count place bytes))
    ∙ sym (drop-take count (filled - (place + count)) (drop place bytes))
    ∙ ap (λ n. drop count (take n (drop place bytes))) (sym parts)
