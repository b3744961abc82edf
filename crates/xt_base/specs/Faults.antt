-- counts of what went wrong outside, and of calls
use Rattle.std.specs.Prelude.{ℕ, Bool, true, false, min, ◌<◌, ◌^◌, ◌+◌, ◌-◌, ◌≡◌, ◌⊎◌}

-- a count that stays at the greatest 64-bit number
abbrev pub counted : ℕ → ℕ
counted n = min n (2 ^ 64 - 1)

-- each call that fails is counted, and no other
abbrev pub fault_count_after : Bool → ℕ → ℕ
fault_count_after true before = counted (before + 1)
fault_count_after false before = before

-- A count of faults rose. One that is at its greatest value stays there.
abbrev pub Rose : ℕ → ℕ → Type 0
Rose old new = (old < new) ⊎ (new ≡ 2 ^ 64 - 1)
