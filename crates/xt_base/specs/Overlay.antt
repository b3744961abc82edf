-- writing into bytes at a place, for an object's body and for a whole file alike
use Rattle.std.specs.Prelude.{ℕ, List, ◌++◌, ◌+◌, ◌-◌, length, take, drop, replicate}

-- as many zeros
abbrev pub zeros : ℕ → List ℕ
zeros count = replicate count 0

-- the old bytes with the new ones at a place; what lies between the old end and that place is zero
abbrev pub overlay : List ℕ → ℕ → List ℕ → List ℕ
overlay old at new = take at old ++ zeros (at - length old) ++ new ++ drop (at + length new) old

-- the first so many bytes, with zeros where there are fewer
abbrev pub cut_or_filled : List ℕ → ℕ → List ℕ
cut_or_filled bytes size = take size bytes ++ zeros (size - length bytes)
