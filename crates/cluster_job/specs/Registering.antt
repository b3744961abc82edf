-- how the nodes of a cluster are registered
use Rattle.std.specs.Prelude.{ℕ, ◌≡◌, ◌≢◌, ◌⊎◌, None, List, [], ◌∷◌, ◌++◌}
use Rattle.xt_messages.specs.declared.status.Status.{Status}
use Rattle.xt_messages.specs.declared.status.Status.TheVariants as status
use Rattle.client_jobs.specs.Running.{HasWhy, Closes}
use Rattle.client_jobs.specs.Lines.{IsLine}
use Rattle.command_words.specs.declared.job.ClientJob.{ClientJob}
use Rattle.command_words.specs.declared.job.ClusterJob.{ClusterJob}
use Rattle.command_words.specs.declared.job.Order.TheVariants as order
use Rattle.cluster_words.specs.declared.children.ClusterNode.{ClusterNode}
use Rattle.cluster_words.specs.declared.children.ClusterNode.TheVariants as node
use Rattle.cluster_words.specs.Children.{local, number_of, port_of}
use Rattle.cluster_children.specs.Calls.{osds_to}
use Rattle.cluster_lines.specs.Lines.{Situation}
use Rattle.cluster_job.specs.Opening.{OnlyReads}

-- 1 is an OSD, and 2 an MRC
abbrev pub kind_of : ClusterNode → ℕ
kind_of (node.Osd number) = 1
kind_of _ = 2

-- the command that registers a node where it is to be reached
abbrev pub registration_of : ClusterJob → ClusterNode → ClientJob
registration_of job n = record {
  settings = job.settings;
  who = job.who;
  dir = None;
  key = None;
  order = order.Register (record { 0 = number_of n }) (kind_of n) (local (port_of job.port n));
}

-- the nodes that are registered, in this order
abbrev pub registered_of : ℕ → List ClusterNode
registered_of osds = node.Mrc ∷ osds_to osds

-- a command of the session was run, which takes nothing of the source, and ended so
pub record RunsLine (line : ClientJob) (s later : Situation) (said : Status) : Type 0 where
  pub ran : IsLine line s.session later.session s.around later.around s.held later.held s.sink later.sink s.counts later.counts said
  pub left : later.left ≡ s.left
  pub source : later.counts.source ≡ s.counts.source

-- These nodes were registered, one after the other, each by a command of the session that ended well.
pub data Registers (job : ClusterJob) (start : Situation) : List ClusterNode → Situation → Type 0 where
  none : Registers job start [] start
  one_more : (nodes : List ClusterNode) (n : ClusterNode) (s later : Situation)
      → Registers job start nodes s → RunsLine (registration_of job n) s later status.Done → Registers job start (nodes ++ n ∷ []) later

-- only the clock was used, once
pub record ReadsOnce (s later : Situation) (reading : ℕ) : Type 0 where
  pub reads : OnlyReads s.around later.around (reading ∷ [])
  pub only : later ≡ record s { around = later.around }

-- All were, and then the clock was read once.
pub record HasRegistered (job : ClusterJob) (s later : Situation) (reading : ℕ) : Type 0 where
  pub last : Situation
  pub registers : Registers job s (registered_of job.osds) last
  pub reads : ReadsOnce last later reading

-- nothing was done but that the last line of this status was put
pub record OnlyCloses (why : Status) (s later : Situation) (said : Status) : Type 0 where
  pub closes : Closes s.held later.held s.sink later.sink why said
  pub cause : HasWhy s.counts later.counts why
  pub only : later ≡ record s { held = later.held; sink = later.sink; counts = later.counts }

-- A node isn't registered: its command ended otherwise; or memory ran out before it.
abbrev pub IsNotRegistered : ClusterJob → ClusterNode → Situation → Situation → Status → Type 0
IsNotRegistered job n s later said =
    RunsLine (registration_of job n) s later said × (said ≢ status.Done) ⊎ OnlyCloses status.OutOfMemory s later said

-- Why not all were: one of them isn't, and that is how the cluster ends; or the clock wasn't read after the last one.
pub data CannotRegister (job : ClusterJob) (start later : Situation) (said : Status) : Type 0 where
  at_node : (front rest : List ClusterNode) (n : ClusterNode) (s : Situation) → registered_of job.osds ≡ front ++ n ∷ rest → Registers job start front s
      → IsNotRegistered job n s later said → CannotRegister job start later said
  at_clock : (s : Situation) (count : ℕ) → Registers job start (registered_of job.osds) s → OnlyCloses (status.ClockFault count) s later said
      → CannotRegister job start later said
