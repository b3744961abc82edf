-- the pieces of a line, as they lie in what was read ahead
use Rattle.std.proofs.Common.{◌≡◌, ◌∙◌, ℕ, zero, suc, ◌+◌, ◌<◌, ◌≤◌, ◌==◌, true, false, Option, List, [], ◌∷◌, ◌++◌, length, take, min, eqb-true, refl, sym, ap, subst, arith}
use Rattle.std.proofs.lemmas.List.{take-take, length-take, take_all}
use Rattle.memchr.specs.Find.{NoneBefore, Nowhere, Passes, is_byte}
use Rattle.node_links.specs.Streams.{Takes}
use Rattle.schedule_lines.specs.RawLine.{line_feed, IsInLine, IsPiece}

-- bytes before which no line feed stands
front_in_line : (bytes : List ℕ) (n : ℕ) → ((k : ℕ) → k < n → Passes (is_byte line_feed) bytes k → ⊥) → IsInLine (take n bytes)
front_in_line bytes zero none = tt
front_in_line [] (suc n) none = tt
front_in_line (byte ∷ bytes) (suc n) none = (
  (λ (same : byte ≡ line_feed). none 0 (omega arith) (subst (λ (b : ℕ). (b == line_feed) ≡ true) (sym same) refl)),
  front_in_line bytes n (λ (k : ℕ) (less : k < n). none (suc k) (omega arith)),
)

-- the bytes up to a line feed, and it
feed_taken : (bytes : List ℕ) (at : ℕ) → at < length bytes → Passes (is_byte line_feed) bytes at → take (suc at) bytes ≡ take at bytes ++ line_feed ∷ []
feed_taken [] at less feed = absurd (omega arith)
feed_taken (byte ∷ bytes) zero less feed = ap (λ b. b ∷ []) (eqb-true byte line_feed feed)
feed_taken (byte ∷ bytes) (suc at) less feed = ap (λ rest. byte ∷ rest) (feed_taken bytes at (omega arith) feed)

-- a piece with its line feed
pub whole_piece : (old new : Option (List ℕ)) (room n at : ℕ) (ahead slice line longer : List ℕ)
    → slice ≡ ahead
    → n ≡ min (length slice) room
    → NoneBefore (Passes (is_byte line_feed) (take n slice)) 0 (length (take n slice)) at
    → Passes (is_byte line_feed) (take n slice) at
    → longer ≡ line ++ take at (take n slice)
    → Takes old new (take (at + 1) ahead)
    → IsPiece room old new line longer true
whole_piece old new room n at ahead slice line longer same count first feed is taken =
    let less = first.high in
    let cut : take (at + 1) slice ≡ take at (take n slice) ++ line_feed ∷ [] =
    sym (take-take (at + 1) n slice (omega (arith, length-take n slice))) ∙ ap (λ (m : ℕ). take m (take n slice)) (let next : at + 1 ≡ suc at = omega arith in next) ∙ feed_taken (take n slice) at less feed
    in (
      take at (take n slice),
      is,
      subst (Takes old new) cut (subst (λ (a : List ℕ). Takes old new (take (at + 1) a)) (sym same) taken),
      front_in_line (take n slice) at (λ (k : ℕ) (below : k < at). first.before k (omega arith) below),
      omega (arith, length-take n slice, length-take at (take n slice)),
    )

-- a piece without one
pub begun_piece : (old new : Option (List ℕ)) (room n : ℕ) (ahead slice line longer : List ℕ)
    → slice ≡ ahead
    → n ≡ min (length slice) room
    → 1 ≤ length slice
    → 1 ≤ room
    → Nowhere (Passes (is_byte line_feed) (take n slice)) 0 (length (take n slice))
    → longer ≡ line ++ take n slice
    → Takes old new (take (length (take n slice)) ahead)
    → IsPiece room old new line longer false
begun_piece old new room n ahead slice line longer same count some most none is taken =
    let all : take (length (take n slice)) (take n slice) ≡ take n slice = take_all _ _ (omega arith) in
    let long : length (take n slice) ≡ n = omega (arith, length-take n slice) in (
      take n slice,
      is,
      subst (λ (m : ℕ). Takes old new (take m slice)) long (subst (λ (a : List ℕ). Takes old new (take (length (take n slice)) a)) (sym same) taken),
      subst IsInLine all (front_in_line (take n slice) (length (take n slice)) (λ (k : ℕ) (below : k < length (take n slice)). none k (omega arith) below)),
      omega (arith, long),
      omega (arith, long),
    )
