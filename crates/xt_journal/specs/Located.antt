-- Where a journal is on its disk.
use Rattle.std.specs.Prelude.{ℕ, ◌+◌, ◌^◌, ◌<◌, ◌≤◌, Option, Some, None}
use Rattle.std.proofs.Props.{props}
use Rattle.journal_areas.specs.declared.superblock.Superblock.{Superblock}
use Rattle.journal_areas.specs.Sites.{area_of}
use Rattle.journal_moves.specs.Answers.{IsPlaced}

-- Its superblock, where it has one, and the area that counts begin before the gate at which it ends, and the place after that gate is a
-- number of 64 bits.
pub record IsLocated (super : Option Superblock) (end : ℕ) : Type 0 where
  pub placed : IsPlaced super end
  pub began : (area_of super end).place ≤ end
  pub small : end + 1 < 2 ^ 64

placed_prop : (super : Option Superblock) (end : ℕ) → IsProp (IsPlaced super end)
placed_prop None end = hlevel props
placed_prop (Some s) end = hlevel props

pub located_prop : (super : Option Superblock) (end : ℕ) → IsProp (IsLocated super end)
located_prop super end = hlevel (props, placed_prop)
