-- what the check of a store does
use Rattle.std.specs.Prelude.{ℕ, ◌+◌, ◌≤◌, ◌≡◌, ◌⊎◌, IsTrue, Option, List, [], length}
use Rattle.disk_model.specs.declared.disk.Disk.{Ghosts}
use Rattle.disk_model.specs.Disk.{IsImage, LeavesOnly}
use Rattle.journal_areas.specs.declared.superblock.Superblock.{Superblock}
use Rattle.xt_journal.specs.Format.{StandsIn, end_in}
use Rattle.xt_messages.specs.declared.status.Status.{Status}
use Rattle.xt_messages.specs.declared.status.Status.TheVariants as status
use Rattle.object_store.specs.declared.store.Store.{Store}
use Rattle.object_store.specs.Access.{area_of, records_of}
use Rattle.object_store.specs.Texts.{texts_of, AreRecords}
use Rattle.node_loop.specs.Events.{HasDiskCause}
use Rattle.store_loading.specs.Loading.{Medium, EndsUnloaded}
use Rattle.store_loading.specs.Sinks.{HasSinkCause, Reports}
use Rattle.check_job.specs.Reports.{Found, report_text, status_of}

-- These bytes are a journal of the records that were found; or there are too few for any record, and a start makes a new journal.
abbrev pub IsFoundIn : List ℕ → Found → Type 0
IsFoundIn bytes found =
    ((super : Option Superblock) × StandsIn super bytes (texts_of found.records) × (found.long ≡ end_in super (texts_of found.records) + 1))
    ⊎ ((length bytes ≤ 13) × (found.records ≡ []) × (found.long ≡ 13))

-- what is found in a store that was loaded
abbrev pub found_in : {D : Type 0} {g : Ghosts D} → Store D g → ℕ → Found
found_in store limit = record { records = records_of store; long = (area_of store).place + (area_of store).length; limit = limit }

module _ {D : Type 0} (m : Medium D) where
  -- Nothing was written: a read gives what it gave before, and a crash at any moment leaves what it might have left before.
  pub record IsUnwritten (before after : D) : Type 0 where
    pub same : IsTrue m.is_told → (m.kept after).read ≡ (m.kept before).read
    pub each : IsTrue m.is_told → LeavesOnly m.moment m.left_since before after (IsImage (m.kept before))

  -- No records were loaded, as none would be by a start, and nothing was put.
  pub record FindsNone (before after : D) (held later : Option (List ℕ)) (sink risen : ℕ) (said : Status) : Type 0 where
    pub why : EndsUnloaded m.is_told (m.kept before).read said
    pub cause : HasDiskCause (m.fault_count before) (m.fault_count after) said
    pub quiet : later ≡ held
    pub sink_count : risen ≡ sink

  -- These were loaded, and reported.
  pub record FindsSome (limit : ℕ) (before after : D) (held later : Option (List ℕ)) (sink risen : ℕ) (said : Status) : Type 0 where
    pub found : Found
    pub are : AreRecords found.records
    pub room : found.limit ≡ limit
    pub stood : IsTrue m.is_told → IsFoundIn (m.kept before).read found
    pub reports : Reports (report_text found) (status_of found) held later said
    pub cause : HasSinkCause sink risen said
    pub disk_count : m.fault_count after ≡ m.fault_count before

  pub record IsCheck (limit : ℕ) (before after : D) (held later : Option (List ℕ)) (sink risen : ℕ) (said : Status) : Type 0 where
    pub finds : FindsNone before after held later sink risen said ⊎ FindsSome limit before after held later sink risen said
    pub unwritten : IsUnwritten before after
