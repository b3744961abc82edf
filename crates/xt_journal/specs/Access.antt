-- What a journal shows.
use Rattle.std.specs.Prelude.{ℕ, Option}
use Rattle.disk_model.specs.declared.disk.Disk.{Ghosts}
use Rattle.journal_areas.specs.declared.superblock.Superblock.{Superblock}
use Rattle.xt_journal.specs.declared.journal.Journal.{Journal}

module _ {D : Type 0} {g : Ghosts D} where
  abbrev pub disk_of : Journal D g → D
  disk_of journal = journal.disk

  -- the place of the gate where the next record goes
  abbrev pub place_of : Journal D g → ℕ
  place_of journal = journal.end

  -- the greatest length in bytes
  abbrev pub limit_of : Journal D g → ℕ
  limit_of journal = journal.limit

  -- its superblock, where it has one
  abbrev pub superblock_of : Journal D g → Option Superblock
  superblock_of journal = journal.superblock
