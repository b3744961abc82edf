-- the pieces of a range, joined, are the range
use Rattle.std.proofs.Common.{◌≡◌, ◌∙◌, ℕ, ◌+◌, ◌-◌, ◌*◌, ◌/◌, ◌%◌, ◌<◌, ◌≤◌, List, [], ◌∷◌, ◌++◌, take, drop, map, sym, ap, arith}
use Rattle.std.specs.List.{concat}
use Rattle.std.proofs.lemmas.List.{take-take, take-append-drop, drop-drop, drop-take}
use Rattle.std.proofs.lemmas.Nat.{div-mul-add, mod-mul-add}
use Rattle.time_line.specs.Content.{range_of}
use Rattle.striping.specs.declared.Piece.{Piece}
use Rattle.striping.specs.Cover.{IsPieceFrom, Covers, bytes_of}

-- a range and the one after it are one range
ranges_join : (content : List ℕ) (from a b : ℕ) → range_of content from a ++ range_of content (from + a) b ≡ range_of content from (a + b)
ranges_join content from a b =
    let behind : List ℕ = drop from content in
    sym (ap (λ front. front ++ range_of content (from + a) b) (take-take a (a + b) behind (omega arith)))
    ∙ ap (λ back. take a (take (a + b) behind) ++ back) (ap (take b) (sym (drop-drop a from content)) ∙ sym (drop-take a b behind))
    ∙ take-append-drop a (take (a + b) behind)

-- a range of a part of the content is a range of the content
range_within : (content : List ℕ) (from size at len : ℕ) → at + len ≤ size
    → range_of (range_of content from size) at len ≡ range_of content (from + at) len
range_within content from size at len inside =
    let left : at + (size - at) ≡ size = omega arith in
    let behind : List ℕ = drop from content in
    ap (λ n. take len (drop at (take n behind))) (sym left)
    ∙ ap (take len) (drop-take at (size - at) behind)
    ∙ take-take len (size - at) (drop at behind) (omega arith)
    ∙ ap (take len) (drop-drop at from content)

-- a piece's bytes are the file's from where it begins
piece_bytes : (stripe width from end : ℕ) (content : List ℕ) (piece : Piece) → IsPieceFrom stripe width from end piece
    → bytes_of stripe content piece ≡ range_of content from piece.len
piece_bytes stripe width from end content piece is =
    range_within content (piece.object * stripe) stripe piece.at piece.len is.inside
    ∙ ap (λ place. range_of content place piece.len) is.begins

pub joined : (stripe width from end len : ℕ) (content : List ℕ) (pieces : List Piece) → Covers stripe width from end pieces
    → from + len ≡ end → concat (map (bytes_of stripe content) pieces) ≡ range_of content from len
joined stripe width from end len content [] covers ends =
    let none : len ≡ 0 = omega arith in
    ap (λ n. take n (drop from content)) (sym none)
joined stripe width from end len content (piece ∷ pieces) covers ends =
    let is = covers.0 in
    let parts : piece.len + (len - piece.len) ≡ len = let within = is.within in omega arith in
    ap (λ bytes. bytes ++ concat (map (bytes_of stripe content) pieces)) (piece_bytes stripe width from end content piece is)
    ∙ ap (λ bytes. range_of content from piece.len ++ bytes)
    (joined stripe width (from + piece.len) end (len - piece.len) content pieces covers.1 (omega arith))
    ∙ ranges_join content from piece.len (len - piece.len)
    ∙ ap (range_of content from) parts

-- a byte of a piece lies in its object
pub placed : (stripe width from end byte : ℕ) (piece : Piece) → IsPieceFrom stripe width from end piece → from ≤ byte
    → byte < from + piece.len → (byte / stripe ≡ piece.object) × (byte % stripe ≡ piece.at + (byte - from))
placed stripe width from end byte piece is low high =
    let begins : piece.object * stripe + piece.at ≡ from = is.begins in
    let inside = is.inside in
    let place : ℕ = piece.at + (byte - from) in
    let short : piece.at + (byte - from) < stripe = omega arith in
    let here : piece.object * stripe + (piece.at + (byte - from)) ≡ byte = omega arith in (
      ap (λ b. b / stripe) (sym here) ∙ div-mul-add piece.object stripe place short,
      ap (λ b. b % stripe) (sym here) ∙ mod-mul-add piece.object stripe place short,
    )
