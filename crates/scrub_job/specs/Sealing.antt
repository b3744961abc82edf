-- seals that are put after the records of a store, all at once
use Rattle.std.specs.Prelude.{ℕ, ◌+◌, ◌≡◌, ◌⊎◌, Bool, IsTrue, Option, List, [], ◌∷◌, ◌++◌}
use Rattle.disk_model.specs.declared.disk.Disk.{Ghosts}
use Rattle.journal_areas.specs.declared.superblock.Superblock.{Superblock}
use Rattle.xt_journal.specs.Access.{limit_of, superblock_of}
use Rattle.xt_journal.specs.Format.{end_in}
use Rattle.xt_messages.specs.declared.record.Record.{Record}
use Rattle.xt_messages.specs.declared.record.Record.TheVariants as kept
use Rattle.xt_messages.specs.declared.status.Status.{Status}
use Rattle.xt_messages.specs.declared.status.Status.TheVariants as status
use Rattle.object_store.specs.declared.store.Store.{Store}
use Rattle.object_store.specs.declared.waiting.StageErr.{StageErr}
use Rattle.object_store.specs.declared.waiting.StageErr.TheVariants.{Full, OutOfMemory}
use Rattle.object_store.specs.declared.waiting.Waiting.{Waiting}
use Rattle.object_store.specs.Access.{disk_of, journal_of, records_of}
use Rattle.object_store.specs.Texts.{texts_of}
use Rattle.object_store.specs.Waits.{CanBePut, recs_of}
use Rattle.node_runs.specs.BatchEnds.{Doing, nothing, putting, refused, has_put}
use Rattle.node_runs.specs.Serving.{IsOver}
use Rattle.node_loop.specs.Events.{HasDiskCause}
use Rattle.node_loop.specs.Passing.{IsDoing}

-- a record of a body's digest
abbrev pub IsSeal : Record → Type 0
IsSeal (kept.Seal file object version digest) = Unit {0}
IsSeal _ = ⊥

-- ---- why they aren't put

-- A journal with this superblock, or with none, has no room for one of these seals within this limit in bytes, after these records and the
-- seals before it. How many bytes it needs, with the gate after the last record, and the limit are reported.
pub record HasNoRoom (is_told : Bool) (super : Option Superblock) (records seals : List Record) (limit need most : ℕ) : Type 0 where
  pub before : List Record
  pub seal : Record
  pub rest : List Record
  pub split : seals ≡ before ++ seal ∷ rest
  pub needed : ℕ
  pub needed_is : IsTrue is_told → needed ≡ end_in super (texts_of (records ++ (before ++ seal ∷ []))) + 1
  pub over : IsOver limit needed need most

-- Why these seals aren't put after these records, in a journal with this superblock or none and this limit in bytes; and what was being done
-- to the records.
abbrev pub EndsUnsealed : Bool → Option Superblock → List Record → List Record → ℕ → Doing → Status → Type 0
-- the disk failed as they were put
EndsUnsealed is_told super records seals limit doing (status.DiskFault count) = doing ≡ putting seals
-- a journal with them has no room
EndsUnsealed is_told super records seals limit doing (status.JournalFull need most) =
    (doing ≡ nothing) × HasNoRoom is_told super records seals limit need most
-- memory ran out before they were put
EndsUnsealed is_told super records seals limit doing status.OutOfMemory = (doing ≡ nothing) ⊎ (doing ≡ refused seals)
EndsUnsealed is_told super records seals limit doing _ = ⊥

module _ {D : Type 0} {g : Ghosts D} where
  -- ---- they wait

  -- These seals wait to be put after the records of the store, which has room for them.
  pub record AreStaged (store : Store D g) (seals : List Record) (waiting : Waiting) : Type 0 where
    pub recs : recs_of waiting ≡ seals
    pub can : CanBePut store (recs_of waiting)

  abbrev pub CannotStage : Store D g → List Record → StageErr → Type 0
  CannotStage store seals (Full need most) =
      HasNoRoom g.is_told (superblock_of (journal_of store)) (records_of store) seals (limit_of (journal_of store)) need most
  CannotStage store seals OutOfMemory = Unit {0}

  -- ---- they are put

  -- All of these seals were put. A crash on the way leaves all of them after the records of the store, or none; in the end it leaves all.
  pub record AreSealed (old : Store D g) (seals : List Record) (new : Store D g) : Type 0 where
    pub records : records_of new ≡ records_of old ++ seals
    pub is : IsDoing g.is_told g.kept g.moment g.left_since (disk_of old) (disk_of new) (records_of old) (has_put seals)
    pub faults : g.fault_count (disk_of new) ≡ g.fault_count (disk_of old)

  -- These seals weren't put, and this disk is left.
  pub record CannotSeal (old : Store D g) (seals : List Record) (disk : D) (said : Status) : Type 0 where
    pub doing : Doing
    pub why : EndsUnsealed g.is_told (superblock_of (journal_of old)) (records_of old) seals (limit_of (journal_of old)) doing said
    pub is : IsDoing g.is_told g.kept g.moment g.left_since (disk_of old) disk (records_of old) doing
    pub cause : HasDiskCause (g.fault_count (disk_of old)) (g.fault_count disk) said
