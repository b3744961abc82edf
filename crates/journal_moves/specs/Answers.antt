-- What a move answers.
use Rattle.std.specs.Prelude.{ℕ, ◌+◌, ◌-◌, ◌^◌, ◌≤◌, nat_lt, if◌then◌else◌, Bool, true, false, Option, Some, None, Result, Ok, Err}
use Rattle.xt_base.specs.Faults.{counted}
use Rattle.journal_areas.specs.declared.superblock.Superblock.{Superblock}
use Rattle.journal_areas.specs.Superblocks.{base_of}
use Rattle.journal_areas.specs.Sites.{moved, need_for, number_after, slot_of}
use Rattle.journal_moves.specs.declared.moving.Located.{Located}
use Rattle.journal_moves.specs.declared.moving.Refusal.{Refusal}
use Rattle.journal_moves.specs.declared.moving.Refusal.TheVariants.{Broken, Full, OutOfMemory}

-- the superblock's record and the gate after it stand before the place after the journal's last gate
abbrev pub IsPlaced : Option Superblock → ℕ → Type 0
IsPlaced None end = Unit {0}
IsPlaced (Some s) end = base_of s ≤ end + 1

-- What a journal would need that can't move to an area of this size within this limit: as many bytes as pass it, or, where the
-- numbers of areas are used up, the limit itself.
abbrev pub full_need : Option Superblock → ℕ → ℕ → ℕ → Option ℕ
full_need super end size limit =
    if nat_lt limit (need_for super end size) then Some (counted (need_for super end size))
    else (if nat_lt (number_after (slot_of super)) (2 ^ 64) then None else Some limit)

abbrev pub told_need : {T : Type 0} → Result T Refusal → Option ℕ
told_need (Ok value) = None
told_need (Err Broken) = None
told_need (Err (Full need)) = Some need
told_need (Err OutOfMemory) = None

abbrev pub is_broken : {T : Type 0} → Result T Refusal → Bool
is_broken (Ok value) = false
is_broken (Err Broken) = true
is_broken (Err (Full need)) = false
is_broken (Err OutOfMemory) = false

-- where the journal stands once it has moved
abbrev pub located_after : Option Superblock → ℕ → ℕ → Located
located_after super end size = record { superblock = Some (moved super end size); end = need_for super end size - 1 }
