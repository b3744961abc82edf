-- what the job of a sweep does
use Rattle.std.specs.Prelude.{ℕ, ◌≡◌, ◌⊎◌, IsTrue, Option, None, Some, List, [], ◌∷◌, take}
use Rattle.disk_model.specs.declared.disk.Disk.{Ghosts}
use Rattle.disk_model.specs.Disk.{IsImage, LeavesOnly}
use Rattle.journal_areas.specs.declared.superblock.Superblock.{Superblock}
use Rattle.xt_base.specs.Faults.{Rose}
use Rattle.xt_base.specs.TimeSettings.{TimeSettings}
use Rattle.xt_base.specs.declared.ids.FileId.{FileId}
use Rattle.xt_messages.specs.declared.record.Record.{Record}
use Rattle.xt_messages.specs.declared.status.Status.{Status}
use Rattle.xt_messages.specs.declared.status.Status.TheVariants as status
use Rattle.xt_protocol.specs.Folds.{fold_of}
use Rattle.xt_journal.specs.Format.{StandsFor, StandsIn, end_in}
use Rattle.object_store.specs.declared.errors.AppendErr.{AppendErr}
use Rattle.object_store.specs.declared.errors.AppendErr.TheVariants as append
use Rattle.object_store.specs.Texts.{texts_of, AreRecords}
use Rattle.server_rows.specs.Laws.{files_made}
use Rattle.server_rows.specs.Metadata.{catalogue_of}
use Rattle.orphan_sweep.specs.declared.fate.Fate.{Fate}
use Rattle.orphan_sweep.specs.Fates.{fates_of, orphans_of}
use Rattle.orphan_sweep.specs.Laws.{unswept}
use Rattle.orphan_sweep.specs.Swept.{SaysBut, SaysNamedBut, folded_but, removed, swept}
use Rattle.orphan_sweep.specs.Sweeps.{StandsBetween, lacking}
use Rattle.node_links.specs.Streams.{Puts}
use Rattle.schedule_lines.specs.Fronts.{PutsFront}
use Rattle.node_runs.specs.Links.{Reads}
use Rattle.store_loading.specs.Loading.{Medium, ComesFrom, IsUnloaded}
use Rattle.sweep_job.specs.Lines.{swept_line}

-- ---- what is to be done

-- The secret of the site, its times, and how many bytes the journal of the OSD's store may have.
pub record Task : Type 0 where
  pub key : List ℕ
  pub times : TimeSettings
  pub limit : ℕ

-- What is outside: what the clock is to read, what the sink holds, and the disk.
pub record Around (D : Type 0) : Type 0 where
  pub readings : Option (List ℕ)
  pub held : Option (List ℕ)
  pub disk : D

-- the files that a metadata server made by these records, each with the clock at which it was unlinked, if it was
abbrev pub files_by : List ℕ → List Record → List (FileId × Option ℕ)
files_by key records = files_made (catalogue_of key records).made

-- ---- statuses

-- the clock's count of faults rose exactly where the status reports it
abbrev pub HasClockCause : ℕ → ℕ → Status → Type 0
HasClockCause before after (status.ClockFault count) = Rose before after × (count ≡ after)
HasClockCause before after _ = after ≡ before

-- A line is put, and the job is done; or memory runs out before, or the sink fails over it.
abbrev pub Tells : List ℕ → Option (List ℕ) → Option (List ℕ) → Status → Type 0
Tells text held later (status.SinkFault count) = PutsFront held later text
Tells text held later status.OutOfMemory = later ≡ held
Tells text held later said = Puts held later text × (said ≡ status.Done)

-- Why a sweep ends before its end: the disk failed; the journal has no room, where it lacks so many bytes within this limit; or memory ran
-- out.
abbrev pub Stops : Option ℕ → ℕ → Status → Type 0
Stops lacks limit (status.DiskFault count) = Unit {0}
Stops lacks limit (status.JournalFull need most) = (lacks ≡ Some need) × (most ≡ limit)
Stops lacks limit status.OutOfMemory = Unit {0}
Stops lacks limit _ = ⊥

-- the status with which an error ends it
abbrev pub status_of : {D : Type 0} {g : Ghosts D} → AppendErr D g → Status
status_of (append.Broken count disk) = status.DiskFault count
status_of (append.Full store need limit) = status.JournalFull need limit
status_of (append.OutOfMemory store) = status.OutOfMemory

module _ {D : Type 0} (m : Medium D) where
  -- ---- the OSD's store

  -- These records stood on the disk, in a journal with this superblock or none that ended there, and were loaded.
  pub record IsFound (before loaded : D) (records : List Record) (super : Option Superblock) (end : ℕ) : Type 0 where
    pub are : AreRecords records
    pub comes : ComesFrom m before loaded records
    pub stood : IsTrue m.is_told → StandsIn super (m.kept before).read (texts_of records)
    pub place : IsTrue m.is_told → end ≡ end_in super (texts_of records)

  -- From one disk to another a crash at any moment leaves the records but for some of the first of these files, or those that are rewritten once
  -- all of the files are removed; and so it is in the end. All of these say what the old ones said of the other files.
  pub record Passes (loaded after : D) (records : List Record) (files : List FileId) : Type 0 where
    pub each : IsTrue m.is_told → LeavesOnly m.moment m.left_since loaded after (StandsBetween records files)
    pub last : IsTrue m.is_told → (image : List ℕ) → IsImage (m.kept after) image → StandsBetween records files image
    pub on_the_way : (n : ℕ) → SaysBut (take n files) records (removed records (take n files))
    pub in_the_end : SaysNamedBut files records (swept records files)

  -- the sweep came to its end, and its line was put
  pub record IsDone (limit : ℕ) (loaded after : D) (records : List Record) (super : Option Superblock) (end : ℕ) (fates : List (FileId × Fate))
      (held later : Option (List ℕ)) (said : Status) : Type 0 where
    pub room : lacking super limit end records (orphans_of fates) ≡ None
    pub passes : Passes loaded after records (orphans_of fates)
    pub acknowledged : IsTrue m.is_told → (image : List ℕ) → IsImage (m.kept after) image → StandsFor image (texts_of (swept records (orphans_of fates)))
    pub tells : Tells (swept_line fates) held later said

  -- it didn't, and nothing was put
  pub record HasStopped (limit : ℕ) (loaded after : D) (records : List Record) (super : Option Superblock) (end : ℕ) (fates : List (FileId × Fate))
      (held later : Option (List ℕ)) (said : Status) : Type 0 where
    pub why : Stops (lacking super limit end records (orphans_of fates)) limit said
    pub passes : Passes loaded after records (orphans_of fates)
    pub quiet : later ≡ held

  -- what was done with the records of the OSD
  abbrev pub SweepsOrStops : ℕ → D → D → List Record → Option Superblock → ℕ → List (FileId × Fate) → Option (List ℕ) → Option (List ℕ) → Status → Type 0
  SweepsOrStops limit loaded after records super end fates held later said =
      IsDone limit loaded after records super end fates held later said ⊎ HasStopped limit loaded after records super end fates held later said

  -- The OSD's records were found, and their files were judged by those that the server made.
  pub record HasFound (limit : ℕ) (times : TimeSettings) (files : List (FileId × Option ℕ)) (reading : ℕ) (before after : D) (held later : Option (List ℕ))
      (said : Status) : Type 0 where
    pub loaded : D
    pub records : List Record
    pub super : Option Superblock
    pub end : ℕ
    pub found : IsFound before loaded records super end
    -- exactly the orphans among the files go
    pub goes : folded_but (orphans_of (fates_of (fold_of records) files times reading)) (fold_of records) ≡ unswept (fold_of records) files times reading
    pub does : SweepsOrStops limit loaded after records super end (fates_of (fold_of records) files times reading) held later said

  -- They weren't loaded, and nothing was put; or they were found.
  abbrev pub LoadsOrNot : ℕ → TimeSettings → List (FileId × Option ℕ) → ℕ → D → D → Option (List ℕ) → Option (List ℕ) → Status → Type 0
  LoadsOrNot limit times files reading before after held later said =
      (IsUnloaded m before after said × (later ≡ held)) ⊎ HasFound limit times files reading before after held later said

  -- ---- the metadata server's store

  -- These records of a metadata server were loaded.
  pub record IsServer (before loaded : D) (server : List Record) : Type 0 where
    pub are : AreRecords server
    pub comes : ComesFrom m before loaded server

  -- ---- all of it

  -- It ends before it has the files of a metadata server: the clock couldn't be read, or the server's records weren't loaded, or memory ran out
  -- with them. Or it goes on with the OSD's store.
  pub data IsSweep (task : Task) (before after : Around D) (said : Status) : Type 0 where
    timeless : after ≡ before → (count : ℕ) → said ≡ status.ClockFault count → IsSweep task before after said
    unserved : (reading : ℕ) → Reads before.readings after.readings (reading ∷ []) → after.held ≡ before.held → IsUnloaded m before.disk after.disk said
        → IsSweep task before after said
    unlisted : (reading : ℕ) → Reads before.readings after.readings (reading ∷ []) → after.held ≡ before.held → (server : List Record)
        → IsServer before.disk after.disk server → said ≡ status.OutOfMemory → IsSweep task before after said
    goes_on : (reading : ℕ) → Reads before.readings after.readings (reading ∷ []) → (server : List Record) (loaded : D) → IsServer before.disk loaded server
        → LoadsOrNot task.limit task.times (files_by task.key server) reading loaded after.disk before.held after.held said → IsSweep task before after said
