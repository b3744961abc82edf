-- bytes in hex
use Rattle.std.specs.Prelude.{ℕ, ◌+◌, ◌-◌, ◌*◌, ◌==◌, nat_lt, if◌then◌else◌, not, List, [], ◌∷◌, filter}

-- what a digit stands for
abbrev pub digit : ℕ → ℕ
digit code = if nat_lt code 58 then code - 48 else code - 87

-- the bytes that these digits stand for, two for each
abbrev pub in_pairs : List ℕ → List ℕ
in_pairs (high ∷ low ∷ digits) = (16 * digit high + digit low) ∷ in_pairs digits
in_pairs _ = []

-- the bytes that a text stands for, whatever spaces are in it
abbrev pub hex : List ℕ → List ℕ
hex text = in_pairs (filter (λ code. not (code == 32)) text)
