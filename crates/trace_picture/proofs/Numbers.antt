-- numbers and words, as they are read
use Rattle.std.proofs.Common.{◌≡◌, ℕ, ◌^◌, ◌<◌, ◌≤◌, List, [], ◌∷◌, length, get_or, Result, Ok, sym, ap, ◌∙◌, arith}
use Rattle.std.specs.Fmt.{decimal}
use Rattle.std.specs.Str.Parse.{ParsesUnsigned}
use Rattle.std.proofs.lemmas.Fmt.{parse-decimal}

-- the digits of a number are read as it
pub read_back : {E : Type 0} (n : ℕ) (text : List ℕ) (read : Result ℕ E) → n < 2 ^ 64 → text ≡ decimal n → ParsesUnsigned 64 10 text read → read ≡ Ok n
read_back n text read fits is parsed = parse-decimal 64 n text read fits fits is parsed

-- a list of two
pub pair : {X : Type 0} (xs : List X) (a b : X) → 2 ≤ length xs → length xs < 3 → a ≡ get_or xs 0 a → b ≡ get_or xs 1 b → xs ≡ a ∷ b ∷ []
pair [] a b least most first second = absurd (omega (arith, least))
pair (x ∷ []) a b least most first second = absurd (omega (arith, least))
pair (x ∷ y ∷ []) a b least most first second = ap (λ z. z ∷ y ∷ []) (sym first) ∙ ap (λ z. a ∷ z ∷ []) (sym second)
pair (x ∷ y ∷ z ∷ xs) a b least most first second = absurd (omega (arith, most))
