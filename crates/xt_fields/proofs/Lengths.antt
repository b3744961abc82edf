-- four bytes that are written over the front
use Rattle.std.proofs.Common.{◌≡◌, ℕ, ◌≤◌, List, [], ◌∷◌, length, drop, set, refl, arith}

pub written_over : (bytes : List ℕ) (a b c d : ℕ) → 4 ≤ length bytes → set (set (set (set bytes 0 a) 1 b) 2 c) 3 d ≡ a ∷ b ∷ c ∷ d ∷ drop 4 bytes
written_over [] a b c d long = absurd (omega arith)
written_over (w ∷ []) a b c d long = absurd (omega arith)
written_over (w ∷ x ∷ []) a b c d long = absurd (omega arith)
written_over (w ∷ x ∷ y ∷ []) a b c d long = absurd (omega arith)
written_over (w ∷ x ∷ y ∷ z ∷ bytes) a b c d long = refl
