-- what a node does to its disk before it serves, and what it leaves on it in the end
use Rattle.std.specs.Prelude.{ℕ, ◌≡◌, ◌<◌, ◌≤◌, ◌⊎◌, Bool, IsTrue, Option, Some, List, [], ◌∷◌, ◌+◌}
use Rattle.disk_model.specs.declared.disk.Disk.{Ghosts}
use Rattle.disk_model.specs.Disk.{LeavesOnly}
use Rattle.xt_base.specs.declared.ids.Boot.{Boot}
use Rattle.xt_messages.specs.Limits.{FitsBoot}
use Rattle.xt_messages.specs.declared.record.Record.{Record}
use Rattle.xt_messages.specs.declared.status.Limited.TheVariants as limited
use Rattle.xt_messages.specs.declared.status.Status.{Status}
use Rattle.xt_messages.specs.declared.status.Status.TheVariants as status
use Rattle.journal_areas.specs.declared.superblock.Superblock.{Superblock}
use Rattle.xt_journal.specs.Access.{limit_of, superblock_of}
use Rattle.xt_journal.specs.Format.{StandsIn, StandsFor, end_in}
use Rattle.xt_journal.specs.Loaded.{LeavesAsBefore}
use Rattle.object_store.specs.declared.store.Store.{Store}
use Rattle.object_store.specs.Access.{disk_of, records_of, journal_of as journal_in}
use Rattle.object_store.specs.Texts.{texts_of, AreRecords}
use Rattle.node_runs.specs.BatchEnds.{Doing, nothing, putting, refused, KeepsDoing, LeavesDoing}
use Rattle.node_runs.specs.Keeping.{KeepsOn, KeepsNow, KeptInTurn}
use Rattle.node_runs.specs.Runs.{JournalAt, journal_with, grown}
use Rattle.node_runs.specs.Serving.{IsOver}
use Rattle.node_loop.specs.Events.{HasDiskCause}
use Rattle.node_loop.specs.Stores.{journal_at}
use Rattle.store_loading.specs.Boots.{stored_boot, next_boot, boot_record, booted}
use Rattle.store_loading.specs.Loading.{Medium, IsUnloaded}

-- ---- where the boot's record goes

-- These bytes are a journal of these records. It is described as it is once one more is put after them.
pub record StandAt (bytes : List ℕ) (records : List Record) (rec : Record) (journal : JournalAt) : Type 0 where
  pub super : Option Superblock
  pub stand : StandsIn super bytes (texts_of records)
  pub is : journal ≡ grown (journal_with super (texts_of records) journal.limit) (Some rec)

-- A journal has this limit in bytes, and within it ends here, with the gate after its last record.
abbrev pub EndsWithin : ℕ → JournalAt → Type 0
EndsWithin limit journal = (journal.limit ≡ limit) × (journal.end < limit)

-- ---- why a node doesn't come to serve

-- why it ends before it uses its disk: its link couldn't be bound, or memory ran out
abbrev pub EndsUnopened : Status → Type 0
EndsUnopened (status.LinkFault count) = Unit {0}
EndsUnopened status.OutOfMemory = Unit {0}
EndsUnopened _ = ⊥

-- how many bytes a journal with this superblock, or with none, has with the record of the boot after these records, and the gate after it
abbrev pub length_booted : Option Superblock → List Record → ℕ
length_booted super records = end_in super (texts_of (booted records)) + 1

-- Why the boot after these records isn't kept, in a journal with this superblock or none and this limit in bytes, and what was being done to
-- the records.
abbrev pub EndsUnbooted : Bool → Option Superblock → List Record → ℕ → Doing → Status → Type 0
-- the disk failed as the record was put, for which there was room
EndsUnbooted is_told super records limit doing (status.DiskFault count) =
    FitsBoot (next_boot records) × (doing ≡ putting (boot_record records ∷ [])) × (IsTrue is_told → length_booted super records ≤ limit)
-- a journal with the record has no room
EndsUnbooted is_told super records limit doing (status.JournalFull need most) =
    FitsBoot (next_boot records) × (doing ≡ nothing)
    × ((needed : ℕ) × (IsTrue is_told → needed ≡ length_booted super records) × IsOver limit needed need most)
-- the last boot is stored
EndsUnbooted is_told super records limit doing (status.Limit what most) =
    (doing ≡ nothing) × (what ≡ limited.Boots) × (most ≡ 4611686018427387903) × (stored_boot records ≡ most)
-- memory ran out before the record was put
EndsUnbooted is_told super records limit doing status.OutOfMemory = FitsBoot (next_boot records) × (doing ≡ refused (boot_record records ∷ []))
EndsUnbooted is_told super records limit doing _ = ⊥

module _ {D : Type 0} (m : Medium D) where
  -- ---- from the disk that was handed in

  -- The bytes of the disk stood for these records. Until it had given them, a crash left what it might have left before; then it kept
  -- these lists of records in turn, those first, and at last the one that is settled. From then on a crash leaves that one, or the records
  -- once it is done what was being done to them; and in the end one of the lists that this leaves.
  pub record KeepsFrom (before after : D) (records : List Record) (lists : List (List Record)) (settled : List Record) (doing : Doing) : Type 0 where
    pub stood : IsTrue m.is_told → StandsFor (m.kept before).read (texts_of records)
    pub loaded : D
    pub loads : IsTrue m.is_told → LeavesOnly m.moment m.left_since before loaded (LeavesAsBefore (m.kept before))
    pub until : D
    pub in_turn : IsTrue m.is_told → KeptInTurn m.moment m.left_since loaded records lists settled until
    pub ending : KeepsDoing m.is_told m.moment m.left_since until after settled doing
    pub last : LeavesDoing m.is_told m.kept after settled doing

  -- The disk gave records, and the boot after them isn't kept: its record is there or not, or it wasn't put.
  pub record IsUnbooted (limit : ℕ) (before after : D) (said : Status) : Type 0 where
    pub records : List Record
    pub are : AreRecords records
    pub doing : Doing
    pub super : Option Superblock
    pub stood : IsTrue m.is_told → StandsIn super (m.kept before).read (texts_of records)
    pub why : EndsUnbooted m.is_told super records limit doing said
    pub cause : HasDiskCause (m.fault_count before) (m.fault_count after) said
    pub keeps : KeepsFrom before after records (records ∷ []) records doing

  -- ---- by the way

  -- After these records it kept those, and keeps them. On the way a crash left the former or the latter.
  pub record ComesTo (loaded after : D) (records all : List Record) : Type 0 where
    pub each : KeepsOn m.is_told m.moment m.left_since loaded after (records ∷ all ∷ [])
    pub kept : IsTrue m.is_told → KeepsNow m.moment m.left_since after all
    pub faults : m.fault_count after ≡ m.fault_count loaded

  -- why the link couldn't be bound, or the disk gave no records
  abbrev pub CannotOpen : D → D → Status → Type 0
  CannotOpen before after said = ((after ≡ before) × EndsUnopened said) ⊎ IsUnloaded m before after said

  module _ {g : Ghosts D} where
    -- the record of the next boot was put, within the journal's limit
    pub record IsBooted (old new : Store D g) (boot : Boot) : Type 0 where
      pub records : records_of new ≡ booted (records_of old)
      pub boot_is : boot ≡ next_boot (records_of old)
      pub fits : FitsBoot boot
      pub journal : journal_at new ≡ grown (journal_at old) (Some (boot_record (records_of old)))
      pub within : EndsWithin (limit_of (journal_in old)) (journal_at new)
      pub comes_to : ComesTo (disk_of old) (disk_of new) (records_of old) (records_of new)

    -- it wasn't, and this is left
    pub record CannotBoot (old : Store D g) (disk : D) (said : Status) : Type 0 where
      pub doing : Doing
      pub why : EndsUnbooted m.is_told (superblock_of (journal_in old)) (records_of old) (limit_of (journal_in old)) doing said
      pub cause : HasDiskCause (m.fault_count (disk_of old)) (m.fault_count disk) said
      pub keeps : KeepsDoing m.is_told m.moment m.left_since (disk_of old) disk (records_of old) doing
      pub last : LeavesDoing m.is_told m.kept disk (records_of old) doing
