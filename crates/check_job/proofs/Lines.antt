-- texts that grow
use Rattle.std.proofs.Common.{◌≡◌, ◌∙◌, ◌++◌, ℕ, List, [], sym, ap, append_assoc, append-nil}

-- one piece more, and what comes after it
pub grows : (old new final piece rest : List ℕ) → new ≡ old ++ piece → final ≡ new ++ rest → final ≡ old ++ (piece ++ rest)
grows old new final piece rest is later = later ∙ ap (λ (t : List ℕ). t ++ rest) is ∙ append_assoc old piece rest

-- the last one
pub ends : (old new piece : List ℕ) → new ≡ old ++ piece → new ≡ old ++ (piece ++ [])
ends old new piece is = is ∙ ap (λ (p : List ℕ). old ++ p) (sym (append-nil piece))

-- a text that was empty
pub from_none : (old final rest : List ℕ) → old ≡ [] → final ≡ old ++ rest → final ≡ rest
from_none old final rest none all = all ∙ ap (λ (t : List ℕ). t ++ rest) none

-- one piece more, after a text that is known
pub after : (old new piece text : List ℕ) → new ≡ old ++ piece → old ≡ text → new ≡ text ++ piece
after old new piece text more is = more ∙ ap (λ (t : List ℕ). t ++ piece) is
