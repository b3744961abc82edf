-- the disk of a node
use Rattle.std.specs.Prelude.{ℕ, ◌≡◌, ◌≤◌, nat_le, Bool, false, Option, List}
use Rattle.disk_model.specs.Changes.{Memory, memory_kept}
use Rattle.disk_model.specs.Plan.{planned}
use Rattle.xt_messages.specs.declared.record.Record.{Record}
use Rattle.journal_areas.specs.declared.superblock.Superblock.{Superblock}
use Rattle.xt_journal.specs.Format.{StandsIn}
use Rattle.xt_journal.specs.Loaded.{IsReady}
use Rattle.object_store.specs.Texts.{texts_of, AreRecords}
use Rattle.world_disk.specs.Room.{place_in}
use Rattle.world_disk.specs.declared.TheConstants.{JOURNAL}

-- A disk with these bytes stands for these records, each of them in its place, in a journal with a superblock or none whose current
-- area ends within the limit.
pub record AreOn (bytes : List ℕ) (records : List Record) : Type 0 where
  pub superblock : Option Superblock
  pub stand : StandsIn superblock bytes (texts_of records)
  pub sound : AreRecords records
  pub short : place_in superblock records ≤ JOURNAL

-- it stands for some
abbrev pub HasRecords : List ℕ → Type 0
HasRecords bytes = ∥ ((records : List Record) × AreOn bytes records) ∥₁

-- no call of the disk fails, it holds a journal, and that journal of these records, with this superblock or none, is within its limit
pub record IsCalm (disk : Memory) (records : List Record) (limit : ℕ) (super : Option Superblock) : Type 0 where
  pub never_fails : (looks changes : ℕ) → planned disk.plan looks changes ≡ false
  pub ready : IsReady (memory_kept disk).read
  pub short : place_in super records ≤ JOURNAL
  pub limited : limit ≡ JOURNAL

-- Of the next four calls that change, those fail that have this number or a greater one.
abbrev pub IsToStop : ℕ → (ℕ → ℕ → Bool) → Type 0
IsToStop call fails = (changes : ℕ) → changes ≤ 4 → fails 0 changes ≡ nat_le call changes
