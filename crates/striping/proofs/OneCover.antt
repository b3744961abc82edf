-- a range falls into pieces in one way alone
use Rattle.std.proofs.Common.{◌≡◌, ◌∙◌, ℕ, ◌+◌, ◌%◌, ◌<◌, ◌≤◌, List, [], ◌∷◌, refl, sym, ap, subst, arith, ⊎_elim, eq-or-lt_of_le, le_antisymm}
use Rattle.std.proofs.lemmas.Nat.{same_from_place}
use Rattle.striping.specs.declared.Piece.{Piece}
use Rattle.striping.specs.Cover.{IsPieceFrom, Covers}

-- a piece is no longer than another one with which the same range begins
no_longer : (stripe width from end : ℕ) (p q : Piece) → IsPieceFrom stripe width from end p
    → IsPieceFrom stripe width from end q → p.at ≡ q.at → p.len ≤ q.len
no_longer stripe width from end p q a b same =
    let within = a.within in
    let inside = a.inside in
    ⊎_elim (λ (ends : from + q.len ≡ end). omega arith)
    (λ (less : from + q.len < end). let whole = b.whole less in omega arith)
    (eq-or-lt_of_le b.within)

same_piece : (stripe width from end : ℕ) (p q : Piece) → IsPieceFrom stripe width from end p
    → IsPieceFrom stripe width from end q → p ≡ q
same_piece stripe width from end p q a b =
    let first : p.at < stripe = let some = a.some in let inside = a.inside in omega arith in
    let other : q.at < stripe = let some = b.some in let inside = b.inside in omega arith in
    let place : (p.object ≡ q.object) × (p.at ≡ q.at) =
    same_from_place p.object p.at q.object q.at stripe first other (a.begins ∙ sym b.begins) in
    let len : p.len ≡ q.len =
    le_antisymm (no_longer stripe width from end p q a b place.1)
    (no_longer stripe width from end q p b a (sym place.1)) in
    let owner : p.owner ≡ q.owner = a.owned ∙ ap (λ object. object % width) place.0 ∙ sym b.owned in
    ap (λ (n : ℕ). record p { object = n }) place.0
    ∙ ap (λ (n : ℕ). record p { object = q.object; at = n }) place.1
    ∙ ap (λ (n : ℕ). record p { object = q.object; at = q.at; len = n }) len
    ∙ ap (λ (n : ℕ). record q { owner = n }) owner

pub same_pieces : (stripe width from end : ℕ) (ps qs : List Piece) → Covers stripe width from end ps
    → Covers stripe width from end qs → ps ≡ qs
same_pieces stripe width from end [] [] a b = refl
same_pieces stripe width from end [] (q ∷ qs) a b =
    absurd (let some = b.0.some in let within = b.0.within in omega arith)
same_pieces stripe width from end (p ∷ ps) [] a b =
    absurd (let some = a.0.some in let within = a.0.within in omega arith)
same_pieces stripe width from end (p ∷ ps) (q ∷ qs) a b =
    let same : p ≡ q = same_piece stripe width from end p q a.0 b.0 in
    ap (λ first. first ∷ ps) same
    ∙ ap (λ later. q ∷ later)
    (same_pieces stripe width (from + q.len) end ps qs
    (subst (λ (first : Piece). Covers stripe width (from + first.len) end ps) same a.1) b.1)
