-- Disks that hold a journal, all of it synced.
use Rattle.std.specs.Prelude.{ℕ, ◌≡◌, Option, List}
use Rattle.disk_model.specs.Disk.{Kept, at_rest}
use Rattle.journal_areas.specs.declared.superblock.Superblock.{Superblock}
use Rattle.journal_areas.specs.Areas.{IsJournal, end_in}

-- the disk has a journal of these payloads, with this superblock or none
pub record KeepsIn (super : Option Superblock) (kept : Kept) (payloads : List (List ℕ)) : Type 0 where
  pub rests : kept ≡ at_rest kept.read
  pub journal : ∥ IsJournal super kept.read payloads ∥₁

-- with any superblock
pub record KeepsJournal (kept : Kept) (payloads : List (List ℕ)) : Type 0 where
  pub rests : kept ≡ at_rest kept.read
  pub journal : ∥ ((super : Option Superblock) × IsJournal super kept.read payloads) ∥₁

-- it ends at this gate
pub record EndsAt (super : Option Superblock) (kept : Kept) (end : ℕ) : Type 0 where
  pub payloads : List (List ℕ)
  pub keeps : KeepsIn super kept payloads
  pub place : end ≡ end_in super payloads
