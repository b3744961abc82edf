-- what the job of a node does
use Rattle.std.specs.Prelude.{ℕ, ◌≡◌, ◌+◌, ◌/◌, max, Option, List, IsTrue, false, [], ◌∷◌, ◌++◌, codes}
use Rattle.std.specs.Fmt.{decimal}
use Rattle.xt_base.specs.TimeSettings.{TimeSettings}
use Rattle.xt_base.specs.declared.ids.Boot.{Boot}
use Rattle.xt_base.specs.declared.ids.NodeId.{NodeId}
use Rattle.xt_messages.specs.Limits.{FitsBoot}
use Rattle.xt_messages.specs.declared.record.Record.{Record}
use Rattle.xt_messages.specs.declared.status.Status.{Status}
use Rattle.xt_messages.specs.declared.status.Status.TheVariants as status
use Rattle.xt_protocol.specs.Folds.{fold_of}
use Rattle.xt_protocol.specs.OsdSteps.{OsdState, osd_from}
use Rattle.object_store.specs.Texts.{AreRecords}
use Rattle.node_links.specs.Streams.{Puts}
use Rattle.node_links.specs.declared.link.Datagram.{Datagram}
use Rattle.schedule_lines.specs.Fronts.{PutsFront}
use Rattle.node_runs.specs.BatchEnds.{nothing, IsServedInBatches}
use Rattle.node_runs.specs.Batches.{kept_at}
use Rattle.node_runs.specs.Hearing.{Ears, with_address}
use Rattle.node_runs.specs.Links.{Reads}
use Rattle.node_runs.specs.Runs.{Role, Served, JournalAt}
use Rattle.node_loop.specs.Events.{HasDiskCause}
use Rattle.store_loading.specs.Boots.{next_boot, boot_record, booted}
use Rattle.store_loading.specs.Loading.{Medium, IsUnloaded, ComesFrom}
use Rattle.node_jobs.specs.Disks.{EndsUnopened, IsUnbooted, KeepsFrom, ComesTo, EndsWithin, StandAt}

-- ---- what a node is to do

-- The job of a node: its role, and the state in which it starts from its records at a reading of its clock; what it says when it is
-- ready, and what it has heard by then; the milliseconds between two Wakes, how many turns it takes at most, and its journal's limit in
-- bytes.
pub record NodeJob (S : Type 0) : Type 0 where
  pub role : Role S
  pub state_of : List Record → ℕ → S
  pub ready : List ℕ
  pub ears : Ears
  pub period : ℕ
  pub turns : ℕ
  pub limit : ℕ

-- a Wake comes each eighth of a lease, in whole milliseconds, and at most once in each
abbrev pub period_of : TimeSettings → ℕ
period_of times = max 1 (times.lease / 8)

-- nothing was heard yet, and the directory service is reached there
abbrev pub knows_dir : List ℕ → Ears
knows_dir address = record { halves = []; book = with_address [] (record { 0 = 900 }) address }

-- an OSD that starts from its records at a reading of its clock; its boot is the last one in them
abbrev pub osd_at : NodeId → TimeSettings → List Record → ℕ → OsdState
osd_at node times records reading =
    let told = fold_of records in
    osd_from (record { node = node; boot = told.boot; times = times; start = reading }) told.files

-- what an OSD says when it is ready
abbrev pub osd_ready : NodeId → List ℕ
osd_ready node = codes "ready " ++ decimal node.0 ++ 10 ∷ []

-- a node that begins to serve, at a reading of its clock
abbrev pub starting : {S : Type 0} → S → List Record → JournalAt → Ears → ℕ → ℕ → Served S
starting state kept journal ears reading period =
    record { state = state; kept = kept; own = []; ears = ears; clock = reading; due = reading + period; count = 0; journal = journal; woken = false }

-- ---- what is outside

-- What is outside a node: what its link is to give and has taken, how many datagrams were lost, what its clock is to read, what its
-- sink holds, and its disk.
pub record Outside (D : Type 0) : Type 0 where
  pub given : Option (List Datagram)
  pub sent : Option (List Datagram)
  pub losses : ℕ
  pub readings : Option (List ℕ)
  pub held : Option (List ℕ)
  pub disk : D

module _ {D : Type 0} where
  -- nothing was received or sent
  pub record IsSilent (before after : Outside D) : Type 0 where
    pub given : after.given ≡ before.given
    pub sent : after.sent ≡ before.sent
    pub losses : after.losses ≡ before.losses

  -- and neither was the clock read nor anything said
  pub record IsIdle (before after : Outside D) : Type 0 where
    pub silent : IsSilent before after
    pub readings : after.readings ≡ before.readings
    pub held : after.held ≡ before.held

-- ---- what a node does

-- the clock was read once
abbrev pub ReadsOnce : Option (List ℕ) → Option (List ℕ) → Type 0
ReadsOnce unread read = (reading : ℕ) × Reads unread read (reading ∷ [])

-- Why a node that kept its boot doesn't serve: its clock failed; or its sink, as it said that it is ready; or memory ran out after that.
abbrev pub EndsUnready : List ℕ → Option (List ℕ) → Option (List ℕ) → Option (List ℕ) → Option (List ℕ) → Status → Type 0
EndsUnready ready unread read held later (status.ClockFault count) = (read ≡ unread) × (later ≡ held)
EndsUnready ready unread read held later (status.SinkFault count) = ReadsOnce unread read × PutsFront held later ready
EndsUnready ready unread read held later status.OutOfMemory = ReadsOnce unread read × Puts held later ready
EndsUnready ready unread read held later _ = ⊥

module _ {D : Type 0} (m : Medium D) where
  -- The boot was kept, within the journal's limit, and no more was done to the disk.
  pub record IsUnready (ready : List ℕ) (limit : ℕ) (before after : Outside D) (said : Status) : Type 0 where
    pub records : List Record
    pub are : AreRecords records
    pub journal : JournalAt
    pub stand : IsTrue m.is_told → StandAt (m.kept before.disk).read records (boot_record records) journal
    pub within : EndsWithin limit journal
    pub fits : FitsBoot (next_boot records)
    pub silent : IsSilent before after
    pub why : EndsUnready ready before.readings after.readings before.held after.held said
    pub faults : m.fault_count after.disk ≡ m.fault_count before.disk
    pub keeps : KeepsFrom m before.disk after.disk records (records ∷ booted records ∷ []) (booted records) nothing

  -- Why a node ends before it serves, and what it has done by then: nothing was received or sent.
  pub data EndsEarly (ready : List ℕ) (limit : ℕ) (before after : Outside D) (said : Status) : Type 0 where
    -- nothing was done
    unopened : after ≡ before → EndsUnopened said → EndsEarly ready limit before after said
    -- its disk gave no records
    unloaded : IsIdle before after → IsUnloaded m before.disk after.disk said → EndsEarly ready limit before after said
    -- its boot isn't kept
    unbooted : IsIdle before after → IsUnbooted m limit before.disk after.disk said → EndsEarly ready limit before after said
    -- its boot is kept
    unready : IsUnready ready limit before after said → EndsEarly ready limit before after said

  -- A node is ready: these records were loaded from its disk, and that of its boot was appended, in a journal with this limit in bytes and
  -- within it; then it read its clock once, and then it wrote that it is ready.
  pub record IsReady (ready : List ℕ) (limit : ℕ) (before after : Outside D) (all : List Record) (boot : Boot) (reading : ℕ) (journal : JournalAt)
      : Type 0 where
    pub records : List Record
    pub are : AreRecords records
    pub stand : IsTrue m.is_told → StandAt (m.kept before.disk).read records (boot_record records) journal
    pub within : EndsWithin limit journal
    pub fits : FitsBoot (next_boot records)
    pub all_are : all ≡ booted records
    pub boot_is : boot ≡ next_boot records
    pub loaded : D
    pub comes : ComesFrom m before.disk loaded records
    pub comes_to : ComesTo m loaded after.disk records all
    pub silent : IsSilent before after
    pub reads : Reads before.readings after.readings (reading ∷ [])
    pub told : Puts before.held after.held ready

  -- A node served from the records that its disk gave: it kept its boot, then read its clock once, then said that it is ready.
  pub record HasServed {S : Type 0} (job : NodeJob S) (before after : Outside D) (said : Status) : Type 0 where
    pub records : List Record
    pub are : AreRecords records
    pub fits : FitsBoot (next_boot records)
    -- where the records are in the journal as serving begins: as they were loaded, with that of the boot after them, within the limit
    pub journal : JournalAt
    pub stand : IsTrue m.is_told → StandAt (m.kept before.disk).read records (boot_record records) journal
    pub within : EndsWithin job.limit journal
    pub reading : ℕ
    pub between : Option (List ℕ)
    pub read : Reads before.readings between (reading ∷ [])
    pub told : Puts before.held after.held job.ready
    pub serves : IsServedInBatches m.is_told job.role (next_boot records) job.period
        (starting (job.state_of (booted records) reading) (booted records) journal job.ears reading job.period) job.turns
        before.given after.given before.sent after.sent before.losses after.losses between after.readings said
    -- Its disk kept its records, and then in turn those of the serving, from its boot on: those after each batch and each rewriting. A crash
    -- leaves none that are older than what it kept by then. In the end it has one of the lists that what was being done to them leaves.
    pub keeps : KeepsFrom m before.disk after.disk records (records ∷ kept_at m.is_told job.role (next_boot records) job.period before.given
        (starting (job.state_of (booted records) reading) (booted records) journal job.ears reading job.period)
        serves.to_come serves.turns serves.posts serves.end serves.goes) serves.end.kept serves.left.doing
    pub disk_count : HasDiskCause (m.fault_count before.disk) (m.fault_count after.disk) said

  -- The job of a node: it ended before it served, or it served.
  pub data IsNodeJob {S : Type 0} (job : NodeJob S) (before after : Outside D) (said : Status) : Type 0 where
    ended_early : EndsEarly job.ready job.limit before after said → IsNodeJob job before after said
    has_served : HasServed job before after said → IsNodeJob job before after said
