-- what is left of a source or a link, what a sink or a link holds, which calls fail, and counts of faults
use Rattle.std.specs.Prelude.{ℕ, ◌+◌, ◌-◌, ◌≡◌, ◌==◌, Bool, not, ◌&&◌, min, Option, Some, None, List, [], ◌++◌, length}
use Rattle.std.specs.List.{list_any}
use Rattle.xt_base.specs.Faults.{counted}

-- These, bytes or datagrams, were taken from the front of what was left. What isn't known stays unknown.
abbrev pub Takes : {A : Type 0} → Option (List A) → Option (List A) → List A → Type 0
Takes None new taken = new ≡ None
Takes (Some left) new taken = (rest : List _) × (left ≡ taken ++ rest) × (new ≡ Some rest)

-- These bytes are the front of what is left. Where that isn't known, any bytes are.
abbrev pub IsAhead : Option (List ℕ) → List ℕ → Type 0
IsAhead None bytes = Unit {0}
IsAhead (Some left) bytes = (rest : List ℕ) × (left ≡ bytes ++ rest)

-- nothing is left
abbrev pub IsAtEnd : Option (List ℕ) → Type 0
IsAtEnd None = Unit {0}
IsAtEnd (Some left) = left ≡ []

-- These were put after what was held. What isn't known stays unknown.
abbrev pub Puts : {A : Type 0} → Option (List A) → Option (List A) → List A → Type 0
Puts None new put = new ≡ None
Puts (Some held) new put = new ≡ Some (held ++ put)

-- whether a coming call is one of those that are named, counted from 1, where the next one comes after as many calls
abbrev pub is_named : List ℕ → ℕ → ℕ → Bool
is_named failing calls coming = list_any (λ named. named == counted (calls + coming)) failing

-- how many bytes of a piece fit into a room after those that are held
abbrev pub fitting : ℕ → List ℕ → List ℕ → ℕ
fitting room held piece = min (room - length held) (length piece)

-- whether nothing fits of a piece that isn't empty
abbrev pub is_full : ℕ → List ℕ → List ℕ → Bool
is_full room held piece = fitting room held piece == 0 && not (length piece == 0)
