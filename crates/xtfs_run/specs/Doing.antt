-- what the program does, by what its words ask for
use Rattle.std.specs.Prelude.{◌≡◌, ℕ, List, Option, Some, None}
use Rattle.xt_base.specs.Faults.{Rose}
use Rattle.xt_base.specs.declared.ids.NodeId.{NodeId}
use Rattle.xt_messages.specs.declared.status.Status.{Status}
use Rattle.xt_messages.specs.declared.status.Status.TheVariants as status
use Rattle.command_words.specs.declared.job.ClientJob.{ClientJob}
use Rattle.command_words.specs.declared.job.ClusterJob.{ClusterJob}
use Rattle.command_words.specs.declared.job.Serving.{Serving}
use Rattle.command_words.specs.declared.job.SweepJob.{SweepJob}
use Rattle.command_words.specs.declared.job.Job.{Job}
use Rattle.command_words.specs.declared.job.Job.TheVariants as job
use Rattle.schedule_lines.specs.Causes.{HasCause, CausesEnd}
use Rattle.schedule_lines.specs.Putting.{IsFinished}
use Rattle.trace_audit.specs.Audit.{IsAudit, Completes}
use Rattle.replay_job.specs.Job.{IsReplayJob}
use Rattle.world_disk.specs.Room.{journal_room}
use Rattle.make_job.specs.Make.{IsMake}
use Rattle.store_loading.specs.Loading.{Medium}
use Rattle.node_jobs.specs.Jobs.{NodeJob}
use Rattle.node_jobs.specs.Roles.{dir_job, mrc_job, osd_job}
use Rattle.client_jobs.specs.Running.{IsClientJob}
use Rattle.cluster_job.specs.Cluster.{IsClusterJob}
use Rattle.xtfs_run.specs.Around.{Environment, IsUnread, IsAlone, IsChildless, IsOffline, IsTimeless, outside, around, counts, moment}
use Rattle.xtfs_run.specs.Nodes.{NodeCounts, IsNodeCommand}
use Rattle.check_job.specs.Checking.{IsCheck}
use Rattle.scrub_job.specs.Scrubbing.{IsScrub}
use Rattle.xtfs_run.specs.Stores.{StoreJob, IsStoreCommand, SweepCounts, IsSweepCommand}
use Rattle.sweep_job.specs.Sweeping as sweeping

module _ {D : Type 0} where
  -- the last line of a status is put, and nothing else is done
  pub record OnlyTells (why : Status) (before after : Environment D) (said : Status) : Type 0 where
    pub finished : IsFinished before.held after.held why said
    pub cause : CausesEnd before.sink_faults after.sink_faults said
    pub unread : IsUnread before after
    pub alone : IsAlone before after

  pub record Replays (before after : Environment D) (said : Status) : Type 0 where
    pub replay : IsReplayJob before.left after.left before.held after.held before.source_faults after.source_faults
        before.sink_faults after.sink_faults said
    pub alone : IsAlone before after

  pub record Audits (before after : Environment D) (said : Status) : Type 0 where
    -- the trace is that of the lines that were taken, and what is put is the verdict on it, or why there is none
    pub audit : IsAudit before.left after.left before.held after.held said
    -- a fault ends the audit and is reported, where its object's count rose; with any other status no count did
    pub cause : HasCause before.source_faults after.source_faults before.sink_faults after.sink_faults said
    -- a trace within the limits is judged, where neither the source nor the sink fails, unless memory runs out
    pub complete : (Rose before.source_faults after.source_faults → ⊥) → (Rose before.sink_faults after.sink_faults → ⊥)
        → Completes before.left before.held after.held said
    pub alone : IsAlone before after

  pub record Makes (number size : ℕ) (before after : Environment D) (said : Status) : Type 0 where
    -- the generated schedule is replayed, over journals of a limited length, and its trace is audited and counted
    pub make : IsMake journal_room number size before.held after.held before.sink_faults after.sink_faults said
    pub unread : IsUnread before after
    pub alone : IsAlone before after

  abbrev pub node_counts : Environment D → NodeCounts
  node_counts e = record { link = e.link_faults; clock = e.clock_faults; sink = e.sink_faults }

  -- a node serves, whatever its job is
  pub record Serves {S : Type 0} (m : Medium D) (job : NodeJob S) (before after : Environment D) (said : Status) : Type 0 where
    pub node : IsNodeCommand m job (outside before) (outside after) (node_counts before) (node_counts after) said
    pub unread : IsUnread before after
    pub childless : IsChildless before after

  -- the store of a stopped node is worked on
  pub record WorksOnStore (works : StoreJob D) (before after : Environment D) (said : Status) : Type 0 where
    pub command : IsStoreCommand works before.disk after.disk before.held after.held before.sink_faults after.sink_faults said
    pub unread : IsUnread before after
    pub offline : IsOffline before after
    pub timeless : IsTimeless before after
    pub childless : IsChildless before after

  -- the part of it that a sweep uses
  abbrev pub around_sweep : Environment D → sweeping.Around D
  around_sweep e = record { readings = e.readings; held = e.held; disk = e.disk }

  abbrev pub sweep_counts : Environment D → SweepCounts
  sweep_counts e = record { clock = e.clock_faults; sink = e.sink_faults }

  -- the store of a stopped OSD is swept, by that of a stopped metadata server
  pub record Sweeps (m : Medium D) (sweep : SweepJob) (before after : Environment D) (said : Status) : Type 0 where
    pub command : IsSweepCommand m sweep (around_sweep before) (around_sweep after) (sweep_counts before) (sweep_counts after) said
    pub unread : IsUnread before after
    pub offline : IsOffline before after
    pub childless : IsChildless before after

  pub record Commands (client : ClientJob) (before after : Environment D) (said : Status) : Type 0 where
    pub command : IsClientJob client (around before) (around after) before.left after.left before.held after.held
        before.sink_faults after.sink_faults (counts before) (counts after) said
    pub disk : after.disk ≡ before.disk
    pub childless : IsChildless before after

  pub record Clusters (asked : ClusterJob) (before after : Environment D) (said : Status) : Type 0 where
    -- its nodes are started, registered and in the end stopped, and each line of its source is a client command
    pub cluster : IsClusterJob asked (moment before) (moment after) said
    pub disk : after.disk ≡ before.disk

  -- What the program does with a disk, by what its words ask for, and the status with which it ends.
  pub data Does (m : Medium D) (asked : Option Job) (before after : Environment D) (said : Status) : Type 0 where
    -- memory ran out as the words were read
    words_unread : OnlyTells status.OutOfMemory before after said → Does m asked before after said
    -- words that match no command, or have a value out of its range
    refuses : asked ≡ None → OnlyTells status.Usage before after said → Does m asked before after said
    replays : asked ≡ Some job.Replay → Replays before after said → Does m asked before after said
    audits : asked ≡ Some job.Audit → Audits before after said → Does m asked before after said
    makes : (number size : ℕ) → asked ≡ Some (job.Make number size) → Makes number size before after said → Does m asked before after said
    serves_directory : (serving : Serving) → asked ≡ Some (job.Dir serving)
        → Serves m (dir_job serving) before after said → Does m asked before after said
    serves_metadata : (directory : List ℕ) (serving : Serving) → asked ≡ Some (job.Mrc directory serving)
        → Serves m (mrc_job directory serving) before after said → Does m asked before after said
    serves_osd : (id : NodeId) (directory : List ℕ) (serving : Serving) → asked ≡ Some (job.Osd id directory serving)
        → Serves m (osd_job id directory serving) before after said → Does m asked before after said
    checks : (store : List ℕ) (limit : ℕ) → asked ≡ Some (job.Check store limit)
        → WorksOnStore (IsCheck m limit) before after said → Does m asked before after said
    scrubs : (store : List ℕ) (limit : ℕ) → asked ≡ Some (job.Scrub store limit)
        → WorksOnStore (IsScrub m limit) before after said → Does m asked before after said
    sweeps : (sweep : SweepJob) → asked ≡ Some (job.Sweep sweep)
        → Sweeps m sweep before after said → Does m asked before after said
    clusters : (cluster : ClusterJob) → asked ≡ Some (job.Cluster cluster)
        → Clusters cluster before after said → Does m asked before after said
    commands : (client : ClientJob) → asked ≡ Some (job.Client client)
        → Commands client before after said → Does m asked before after said
