-- The digits of a number are those of its tenth, and one after them.
use Rattle.std.proofs.Common.{◌≡◌, ℕ, ◌+◌, ◌/◌, ◌%◌, ◌^◌, ◌<◌, ◌≤◌, List, [], ◌∷◌, ◌++◌, sym, ap, ◌∙◌, append_assoc}
use Rattle.std.specs.Fmt.{decimal}
use Rattle.std.proofs.lemmas.Fmt.{decimal_digit, decimal_step_wide}

pub one_digit : (front : List ℕ) (n : ℕ) → n < 10 → front ++ (48 + n) ∷ [] ≡ front ++ decimal n
one_digit front n small = ap (λ (digits : List ℕ). front ++ digits) (sym (decimal_digit n small))

pub digits_behind : (front before : List ℕ) (n : ℕ) → 10 ≤ n → n < 10 ^ 64 → before ≡ front ++ decimal (n / 10) → before ++ (48 + n % 10) ∷ [] ≡ front ++ decimal n
digits_behind front before n large wide e =
    ap (λ (bytes : List ℕ). bytes ++ (48 + n % 10) ∷ []) e
    ∙ append_assoc front (decimal (n / 10)) ((48 + n % 10) ∷ [])
    ∙ ap (λ (digits : List ℕ). front ++ digits) (sym (decimal_step_wide n large wide))
