-- what the scrub of a store does
use Rattle.std.specs.Prelude.{ℕ, ◌≡◌, ◌⊎◌, Bool, IsTrue, Option, List, [], ◌∷◌}
use Rattle.disk_model.specs.declared.disk.Disk.{Ghosts}
use Rattle.disk_model.specs.Disk.{LeavesOnly}
use Rattle.journal_areas.specs.declared.superblock.Superblock.{Superblock}
use Rattle.xt_journal.specs.Access.{limit_of, superblock_of}
use Rattle.xt_journal.specs.Format.{StandsIn, StandsFor}
use Rattle.xt_journal.specs.Loaded.{LeavesAsBefore}
use Rattle.xt_messages.specs.declared.record.Record.{Record}
use Rattle.xt_messages.specs.declared.status.Status.{Status}
use Rattle.xt_messages.specs.declared.status.Status.TheVariants as status
use Rattle.xt_protocol.specs.Folds.{fold_of, logged_of}
use Rattle.object_store.specs.declared.store.Store.{Store}
use Rattle.object_store.specs.Access.{disk_of, journal_of, records_of}
use Rattle.object_store.specs.Texts.{texts_of, AreRecords}
use Rattle.node_runs.specs.BatchEnds.{Doing, nothing, has_put, done_by, LeavesDoing}
use Rattle.node_runs.specs.Keeping.{StandsForOne}
use Rattle.node_loop.specs.Events.{HasDiskCause}
use Rattle.store_loading.specs.Loading.{Medium, IsUnloaded}
use Rattle.store_loading.specs.Sinks.{HasSinkCause, Reports}
use Rattle.scrub.specs.declared.found.Found.{Found}
use Rattle.scrub.specs.Report.{seals_of}
use Rattle.scrub_job.specs.Counts.{counts_text, status_of}
use Rattle.scrub_job.specs.Checked.{items_in, IsReportOn}
use Rattle.scrub_job.specs.Sealing.{EndsUnsealed}

-- ---- what a crash leaves

-- These bytes are a journal of records that say of all files, and have the requests, that these have.
pub record SaysTheSame (records : List Record) (image : List ℕ) : Type 0 where
  pub now : List Record
  pub stands : StandsFor image (texts_of now)
  pub files : fold_of now ≡ fold_of records
  pub requests : logged_of now ≡ logged_of records

-- the records as they were, or as they are once this is done to them: either says what the records say
abbrev pub LeavesSealed : List Record → Doing → List ℕ → Type 0
LeavesSealed records doing image = StandsForOne (records ∷ done_by records doing ∷ []) image × SaysTheSame records image

-- ---- how a scrub of a loaded store ends

-- why its bodies weren't all read
abbrev pub EndsUnread : Status → Type 0
EndsUnread (status.DiskFault count) = Unit {0}
EndsUnread status.OutOfMemory = Unit {0}
EndsUnread _ = ⊥

-- What was being done to these records as it ended, what was put to the sink, and why it ended.
pub data Ends (is_told : Bool) (super : Option Superblock) (records : List Record) (limit : ℕ) (doing : Doing) (held later : Option (List ℕ)) (said : Status) : Type 0 where
  -- not all bodies were read, and none was sealed
  unread : doing ≡ nothing → EndsUnread said → later ≡ held → Ends is_told super records limit doing held later said
  -- the seals of the new bodies weren't put
  unsealed : (report : List Found) → IsReportOn is_told records report
      → EndsUnsealed is_told super records (seals_of (items_in records) report) limit doing said → later ≡ held
      → Ends is_told super records limit doing held later said
  -- all new bodies were sealed, and how many there are is put with how many others
  sealed : (report : List Found) → IsReportOn is_told records report → doing ≡ has_put (seals_of (items_in records) report)
      → Reports (counts_text report) (status_of report) held later said → Ends is_told super records limit doing held later said

-- what becomes of a store that was loaded
pub record ScrubsLoaded {D : Type 0} {g : Ghosts D} (old : Store D g) (after : D) (held later : Option (List ℕ)) (sink risen : ℕ) (said : Status) : Type 0 where
  pub doing : Doing
  pub ends : Ends g.is_told (superblock_of (journal_of old)) (records_of old) (limit_of (journal_of old)) doing held later said
  pub each : IsTrue g.is_told → LeavesOnly g.moment g.left_since (disk_of old) after (LeavesSealed (records_of old) doing)
  pub last : LeavesDoing g.is_told g.kept after (records_of old) doing
  pub cause : HasDiskCause (g.fault_count (disk_of old)) (g.fault_count after) said
  pub sink_cause : HasSinkCause sink risen said

-- ---- the whole

module _ {D : Type 0} (m : Medium D) where
  -- No records were loaded, as none would be by a start, and nothing was put to the sink.
  pub record ScrubsNone (before after : D) (held later : Option (List ℕ)) (sink risen : ℕ) (said : Status) : Type 0 where
    pub unloaded : IsUnloaded m before after said
    pub quiet : later ≡ held
    pub sink_count : risen ≡ sink

  -- These records were loaded, and the bodies checked that their heads name.
  pub record ScrubsSome (limit : ℕ) (before after : D) (held later : Option (List ℕ)) (sink risen : ℕ) (said : Status) : Type 0 where
    pub records : List Record
    pub are : AreRecords records
    pub super : Option Superblock
    pub stood : IsTrue m.is_told → StandsIn super (m.kept before).read (texts_of records)
    pub doing : Doing
    pub ends : Ends m.is_told super records limit doing held later said
    -- At each moment a crash leaves what it might have left before, or the records with all of the seals or with none, and so what they say.
    pub each : IsTrue m.is_told → LeavesOnly m.moment m.left_since before after
        (λ image. LeavesAsBefore (m.kept before) image ⊎ LeavesSealed records doing image)
    -- in the end it leaves one of the lists of records that what was being done leaves
    pub last : LeavesDoing m.is_told m.kept after records doing
    pub cause : HasDiskCause (m.fault_count before) (m.fault_count after) said
    pub sink_cause : HasSinkCause sink risen said

  abbrev pub IsScrub : ℕ → D → D → Option (List ℕ) → Option (List ℕ) → ℕ → ℕ → Status → Type 0
  IsScrub limit before after held later sink risen said =
      ScrubsNone before after held later sink risen said ⊎ ScrubsSome limit before after held later sink risen said
