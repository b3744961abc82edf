-- bytes that are made of bytes
use Rattle.std.proofs.Common.{ℕ, zero, suc, ◌<◌, List, [], ◌∷◌, ◌++◌, take, arith}
use Rattle.std.specs.List.{AllByRecursion}
use Rattle.std.specs.Int.{to_be_bytes, w32}
use Rattle.xt_base.specs.FieldLimits.{AreBytes}

-- each is a byte, by cases on the list
abbrev pub Each : List ℕ → Type 0
Each bytes = AllByRecursion (λ byte. byte < 256) bytes

pub each_byte : (bytes : List ℕ) → AreBytes bytes → Each bytes
each_byte [] all = tt
each_byte (b ∷ bs) all = (all 0, each_byte bs (λ i. all (suc i)))

pub are_bytes : (bytes : List ℕ) → Each bytes → AreBytes bytes
are_bytes [] each i = omega arith
are_bytes (b ∷ bs) each zero = each.0
are_bytes (b ∷ bs) each (suc i) = are_bytes bs each.1 i

pub each-append : (xs ys : List ℕ) → Each xs → Each ys → Each (xs ++ ys)
each-append [] ys first second = second
each-append (x ∷ xs) ys first second = (first.0, each-append xs ys first.1 second)

pub each-take : (n : ℕ) (xs : List ℕ) → Each xs → Each (take n xs)
each-take zero xs each = tt
each-take (suc n) [] each = tt
each-take (suc n) (x ∷ xs) each = (each.0, each-take n xs each.1)

-- four bytes of a word
pub each-word : (n : ℕ) → Each (to_be_bytes w32 n)
each-word n = (omega arith, (omega arith, (omega arith, (omega arith, tt))))
