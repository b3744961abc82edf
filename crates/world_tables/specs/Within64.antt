-- a number as 64 bits hold it
use Rattle.std.specs.Prelude.{ℕ, min}

-- the number, or the greatest of 64 bits where it is greater
abbrev pub within_64 : ℕ → ℕ
within_64 n = min n 18446744073709551615
