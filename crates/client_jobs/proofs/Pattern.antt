-- pieces of the pattern
use Rattle.std.proofs.Common.{◌≡◌, ◌∙◌, ℕ, zero, suc, ◌+◌, ◌-◌, ◌%◌, min, List, [], ◌∷◌, ◌++◌, length, take, drop, refl, sym, ap, arith}
use Rattle.client_jobs.specs.Content.{pattern_from}

pub length_pattern : (place count : ℕ) → length (pattern_from place count) ≡ count
unfolding pattern_from
length_pattern place zero = refl
length_pattern place (suc count) = ap suc (length_pattern (place + 1) count)

none_of : (place n : ℕ) → n ≡ 0 → [] ≡ pattern_from place n
unfolding pattern_from
none_of place n e = ap (pattern_from place) (sym e)

pub take_pattern : (most place count : ℕ) → take most (pattern_from place count) ≡ pattern_from place (min count most)
unfolding pattern_from
take_pattern zero place count = none_of place (min count 0) (nothing count)
  where
    nothing : (n : ℕ) → min n 0 ≡ 0
    nothing n = omega arith
take_pattern (suc most) place zero = none_of place (min 0 (suc most)) (nothing (suc most))
  where
    nothing : (n : ℕ) → min 0 n ≡ 0
    nothing n = omega arith
take_pattern (suc most) place (suc count) =
    ap (λ (rest : List ℕ). place % 251 ∷ rest) (take_pattern most (place + 1) count) ∙ ap (pattern_from place) (less count most)
  where
    less : (a b : ℕ) → suc (min a b) ≡ min (suc a) (suc b)
    less a b = omega arith

pub drop_pattern : (from place count : ℕ) → drop from (pattern_from place count) ≡ pattern_from (place + from) (count - from)
unfolding pattern_from
drop_pattern zero place count = ap (λ (n : ℕ). pattern_from n count) (same place) ∙ ap (pattern_from (place + 0)) (whole count)
  where
    same : (n : ℕ) → n ≡ n + 0
    same n = omega arith

    whole : (n : ℕ) → n ≡ n - 0
    whole n = omega arith
drop_pattern (suc from) place zero = none_of (place + suc from) (0 - suc from) (nothing (suc from))
  where
    nothing : (n : ℕ) → 0 - n ≡ 0
    nothing n = omega arith
drop_pattern (suc from) place (suc count) =
    drop_pattern from (place + 1) count
    ∙ ap (λ (n : ℕ). pattern_from n (count - from)) (shift place from)
    ∙ ap (pattern_from (place + suc from)) (less count from)
  where
    shift : (a b : ℕ) → a + 1 + b ≡ a + suc b
    shift a b = omega arith

    less : (a b : ℕ) → a - b ≡ suc a - suc b
    less a b = omega arith

pub piece_pattern : (from most size : ℕ) → pattern_from from (min (size - from) most) ≡ take most (drop from (pattern_from 0 size))
piece_pattern from most size =
    sym (ap (take most) (drop_pattern from 0 size ∙ ap (λ (n : ℕ). pattern_from n (size - from)) (front from)) ∙ take_pattern most from (size - from))
  where
    front : (n : ℕ) → 0 + n ≡ n
    front n = omega arith

grows : (place count : ℕ) → pattern_from place (suc count) ≡ pattern_from place count ++ (place + count) % 251 ∷ []
unfolding pattern_from
grows place zero = ap (λ (n : ℕ). n % 251 ∷ []) (same place)
  where
    same : (n : ℕ) → n ≡ n + 0
    same n = omega arith
grows place (suc count) =
    ap (λ (rest : List ℕ). place % 251 ∷ rest)
    (grows (place + 1) count ∙ ap (λ (n : ℕ). pattern_from (place + 1) count ++ n % 251 ∷ []) (shift place count))
  where
    shift : (a b : ℕ) → a + 1 + b ≡ a + suc b
    shift a b = omega arith

pub pattern_grows : (place count : ℕ) → pattern_from place (count + 1) ≡ pattern_from place count ++ (place + count) % 251 ∷ []
pattern_grows place count = ap (pattern_from place) (next count) ∙ grows place count
  where
    next : (n : ℕ) → n + 1 ≡ suc n
    next n = omega arith

pub pattern_none : (place : ℕ) (bytes : List ℕ) → bytes ≡ [] → bytes ≡ pattern_from place 0
unfolding pattern_from
pattern_none place bytes e = e
