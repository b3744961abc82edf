-- what the command of a node does
use Rattle.std.specs.Prelude.{ℕ, Option, List}
use Rattle.xt_messages.specs.declared.status.Status.{Status}
use Rattle.node_runs.specs.BatchEnds.{HasBatchCause}
use Rattle.store_loading.specs.Loading.{Medium}
use Rattle.store_loading.specs.Sinks.{HasSinkCause}
use Rattle.node_jobs.specs.Jobs.{NodeJob, Outside, IsNodeJob}
use Rattle.client_jobs.specs.Running.{Closes}

-- how often a node's link, its clock and its sink have failed
pub record NodeCounts : Type 0 where
  pub link : ℕ
  pub clock : ℕ
  pub sink : ℕ

-- The command of a node: its job, and then the last line of the status with which that ended.
pub record IsNodeCommand {D S : Type 0} (m : Medium D) (job : NodeJob S) (before after : Outside D) (counts risen : NodeCounts) (ended : Status) : Type 0 where
  pub said : Status
  -- what the sink holds when the job has ended, and how often it has failed by then
  pub held : Option (List ℕ)
  pub sink : ℕ
  pub served : IsNodeJob m job before (record {
    given = after.given;
    sent = after.sent;
    losses = after.losses;
    readings = after.readings;
    held = held;
    disk = after.disk;
  }) said
  pub cause : HasBatchCause counts.link risen.link counts.clock risen.clock said
  pub put : HasSinkCause counts.sink sink said
  pub closes : Closes held after.held sink risen.sink said ended
