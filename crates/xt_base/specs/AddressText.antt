-- texts of at most 64 bytes, and how an array of 64 holds them
use Rattle.std.specs.Prelude.{ℕ, List, ◌++◌, length, take, replicate, ◌≤◌, ◌-◌, ◌≡◌, IsUtf8}
use Rattle.xt_base.specs.declared.address.Address.TheInside.{Inside}

-- the text in the first places
abbrev pub shown : Inside → List ℕ
shown a = take a.count a.bytes

-- the text in the first places, and zeros after it
abbrev pub padded : List ℕ → Inside
padded text = record { bytes = text ++ replicate (64 - length text) 0; count = length text }

-- at most 64 bytes of UTF-8, with zeros after
abbrev pub IsPadded : Inside → Type 0
IsPadded a = (a.count ≤ 64) × (padded (shown a) ≡ a) × ∥ IsUtf8 (shown a) ∥₁
