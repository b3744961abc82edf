-- The one byte that decides whether a record of a journal counts.
use Rattle.std.specs.Prelude.{ℕ}

-- the gate of a record that counts
abbrev pub open_gate : ℕ
open_gate = 0xa5
