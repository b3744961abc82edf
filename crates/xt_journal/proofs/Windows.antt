-- a window over bytes
use Rattle.std.proofs.Common.{◌≡◌, ℕ, ◌+◌, ◌-◌, ◌≤◌, List, take, drop, sym, ◌∙◌, ap, arith}
use Rattle.std.proofs.lemmas.List.{drop-drop, drop-take, take-take}

-- some of the bytes that are held
some_held : (bytes : List ℕ) (held from len : ℕ) → from + len ≤ held → take len (drop from (take held bytes)) ≡ take len (drop from bytes)
some_held bytes held from len inside =
    let split : from + (held - from) ≡ held = omega (arith, inside) in
    ap (λ (n : ℕ). take len (drop from (take n bytes))) (sym split) ∙ ap (take len) (drop-take from (held - from) bytes)
    ∙ take-take len (held - from) (drop from bytes) (omega (arith, inside))

-- are those that come after a place
pub window_read : (window read : List ℕ) (held start at len : ℕ) → take held window ≡ take held (drop start read) → start ≤ at → at + len ≤ start + held
    → take len (drop (at - start) window) ≡ take len (drop at read)
window_read window read held start at len same low high =
    let there : start + (at - start) ≡ at = omega (arith, low) in
    sym (some_held window held (at - start) len (omega (arith, low, high))) ∙ ap (λ (l : List ℕ). take len (drop (at - start) l)) same
    ∙ some_held (drop start read) held (at - start) len (omega (arith, low, high)) ∙ ap (take len) (drop-drop (at - start) start read)
    ∙ ap (λ (n : ℕ). take len (drop n read)) there
