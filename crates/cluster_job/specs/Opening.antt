-- how a cluster begins: with an end of the link, and then with its children
use Rattle.std.specs.Prelude.{ℕ, ◌≡◌, Option, List, [], ◌∷◌}
use Rattle.xt_messages.specs.declared.status.Status.{Status}
use Rattle.xt_messages.specs.declared.status.Status.TheVariants as status
use Rattle.node_links.specs.declared.children.ChildCall.{ChildCall}
use Rattle.node_runs.specs.Hearing.{with_address}
use Rattle.node_runs.specs.Links.{Reads}
use Rattle.client_loop.specs.Listening.{DriverView}
use Rattle.client_loop.specs.Carrying.{Around}
use Rattle.client_jobs.specs.Running.{Counts, HasWhy, first_number, new_client}
use Rattle.client_jobs.specs.declared.session.CommandSession.{CommandSession}
use Rattle.command_words.specs.declared.job.ClusterJob.{ClusterJob}
use Rattle.cluster_words.specs.Children.{local}
use Rattle.cluster_children.specs.Calls.{nodes_of, Starts, StartsFront, EndsStart}

-- ---- the end of the link

-- Its boot is the number of a client which begins at this reading. It knows where the DIR is to be, and nobody else.
abbrev pub driver_at : ClusterJob → ℕ → DriverView
driver_at job reading = record {
  sender = record { node = job.who.id; boot = record { 0 = first_number reading }; count = 0 };
  times = job.settings.times;
  listener = record {
    node = job.who.id;
    ears = record { halves = []; book = with_address [] (record { 0 = 900 }) (local job.port) };
    turns = job.settings.turns;
    spent = 0;
  };
}

-- no number was used yet
abbrev pub session_at : ClusterJob → ℕ → CommandSession
session_at job reading = record { driver = driver_at job reading; client = new_client job.who.id job.settings.times 0 }

-- Of what is around, only the clock was used, which gave these readings.
pub record OnlyReads (before after : Around) (readings : List ℕ) : Type 0 where
  pub reads : Reads before.to_read after.to_read readings
  pub only : after ≡ record before { to_read = after.to_read }

-- The link was bound, and then the clock was read once.
pub record HasOpened (job : ClusterJob) (before after : Around) (session : CommandSession) : Type 0 where
  pub reading : ℕ
  pub reads : OnlyReads before after (reading ∷ [])
  pub session_is : session ≡ session_at job reading

-- What was read by then: memory runs out only after the clock was read.
abbrev pub ReadsUntil : Around → Around → Status → Type 0
ReadsUntil before after (status.LinkFault count) = OnlyReads before after []
ReadsUntil before after (status.ClockFault count) = OnlyReads before after []
ReadsUntil before after status.OutOfMemory = (reading : ℕ) × OnlyReads before after (reading ∷ [])
ReadsUntil before after _ = ⊥

-- Why there is no end of the link: it isn't bound, the clock isn't read, or memory runs out.
pub record CannotOpen (before after : Around) (counts now : Counts) (why : Status) : Type 0 where
  pub reads : ReadsUntil before after why
  pub cause : HasWhy counts now why

-- ---- the children

-- All nodes were started, and then the clock was read once.
pub record HasStarted (job : ClusterJob) (before after : Around) (calls later : Option (List ChildCall)) (children : List ℕ) (reading : ℕ) : Type 0 where
  pub starts : Starts job calls later (nodes_of job.osds) children
  pub reads : OnlyReads before after (reading ∷ [])

-- Why they weren't: a node wasn't started, and nothing was read; or all were, and the clock wasn't read.
pub data CannotStart (job : ClusterJob) (before after : Around) (calls later : Option (List ChildCall)) (children : List ℕ) (counts now : Counts)
    (child risen : ℕ) (why : Status) : Type 0 where
  at_node : StartsFront job calls later (nodes_of job.osds) children → EndsStart child risen why → now ≡ counts → after ≡ before
      → CannotStart job before after calls later children counts now child risen why
  at_clock : Starts job calls later (nodes_of job.osds) children → (count : ℕ) → why ≡ status.ClockFault count → HasWhy counts now why
      → risen ≡ child → after ≡ before → CannotStart job before after calls later children counts now child risen why
