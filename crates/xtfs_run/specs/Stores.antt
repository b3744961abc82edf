-- what the commands on the store of a stopped node do
use Rattle.std.specs.Prelude.{ℕ, Option, List}
use Rattle.xt_messages.specs.declared.status.Status.{Status}
use Rattle.client_jobs.specs.Running.{Closes}
use Rattle.command_words.specs.declared.job.SweepJob.{SweepJob}
use Rattle.node_loop.specs.Events.{HasDiskCause}
use Rattle.store_loading.specs.Loading.{Medium}
use Rattle.store_loading.specs.Sinks.{HasSinkCause}
use Rattle.sweep_job.specs.Sweeping.{IsSweep, HasClockCause}
use Rattle.sweep_job.specs.Sweeping as sweeping

-- Work on a store: what it does to a disk, what a sink holds before and after, how often that has failed before and after, and how it ends.
abbrev pub StoreJob : Type 0 → Type 1
StoreJob D = D → D → Option (List ℕ) → Option (List ℕ) → ℕ → ℕ → Status → Type 0

-- The work on a store, and then the last line of the status with which that ended.
pub record IsStoreCommand {D : Type 0} (works : StoreJob D) (before after : D) (held later : Option (List ℕ)) (sink risen : ℕ) (ended : Status) : Type 0 where
  pub said : Status
  -- what the sink holds when the work has ended, and how often it has failed by then
  pub put : Option (List ℕ)
  pub failed : ℕ
  pub worked : works before after held put sink failed said
  pub closes : Closes put later failed risen said ended

-- what a sweep is to do
abbrev pub sweep_task : SweepJob → sweeping.Task
sweep_task sweep = record { key = sweep.key; times = sweep.settings.times; limit = sweep.settings.limit }

-- how often a sweep's clock and its sink have failed
pub record SweepCounts : Type 0 where
  pub clock : ℕ
  pub sink : ℕ

-- The sweep of a store, and then the last line of the status with which that ended.
pub record IsSweepCommand {D : Type 0} (m : Medium D) (sweep : SweepJob) (before after : sweeping.Around D) (counts risen : SweepCounts) (ended : Status)
    : Type 0 where
  pub said : Status
  -- what the sink holds when the sweep has ended, and how often it has failed by then
  pub held : Option (List ℕ)
  pub sink : ℕ
  pub swept : IsSweep m (sweep_task sweep) before (record { readings = after.readings; held = held; disk = after.disk }) said
  pub disk : HasDiskCause (m.fault_count before.disk) (m.fault_count after.disk) said
  pub put : HasSinkCause counts.sink sink said
  pub clock : HasClockCause counts.clock risen.clock said
  pub closes : Closes held after.held sink risen.sink said ended
