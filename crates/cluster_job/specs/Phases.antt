-- how a cluster goes from phase to phase, and what may end it in each
use Rattle.std.specs.Prelude.{ℕ, ◌≡◌, ◌≢◌, ◌+◌, ◌*◌, ◌/◌, max, Option, List, []}
use Rattle.xt_messages.specs.declared.status.Status.{Status}
use Rattle.xt_messages.specs.declared.status.Status.TheVariants as status
use Rattle.node_links.specs.declared.children.ChildCall.{ChildCall}
use Rattle.client_loop.specs.declared.errors.DriveErr.{DriveErr}
use Rattle.client_loop.specs.Waiting.{HasListened, CannotListen}
use Rattle.client_jobs.specs.Running.{HasWhy, Closes, status_of}
use Rattle.client_jobs.specs.Lines.{IsListed}
use Rattle.cluster_lines.specs.Lines.{Situation, AreLines}
use Rattle.command_words.specs.declared.job.ClusterJob.{ClusterJob}
use Rattle.command_words.specs.declared.job.Defaults.{Defaults}
use Rattle.cluster_children.specs.Calls.{Waits, WaitsFront, EndsWait}
use Rattle.cluster_job.specs.Opening.{HasStarted, CannotStart}
use Rattle.cluster_job.specs.Registering.{HasRegistered, CannotRegister}
use Rattle.cluster_job.specs.Parting.{HasParted, CannotPart}

-- How all stands with a cluster: its session with what is around that; the calls of its spawner, and how often that has failed; its
-- children that aren't waited for; and what its clock read when the last child was started and when the last registration had ended.
pub record ClusterState : Type 0 where
  pub situation : Situation
  pub calls : Option (List ChildCall)
  pub child : ℕ
  pub children : List ℕ
  pub started : ℕ
  pub registered : ℕ

pub data Phase : Type 0 where
  starting : Phase
  rising : Phase
  registering : Phase
  listing : Phase
  settling : Phase
  commanding : Phase
  parting : Phase
  waiting : Phase
  over : Phase

abbrev pub phase_after : Phase → Phase
phase_after starting = rising
phase_after rising = registering
phase_after registering = listing
phase_after listing = settling
phase_after settling = commanding
phase_after commanding = parting
phase_after parting = waiting
phase_after waiting = over
phase_after over = over

-- ---- times

-- when the nodes are up
abbrev pub rises_at : ClusterJob → ℕ → ℕ
rises_at job started = started + job.settings.times.drift

-- when the OSDs aren't silent any more, and the MRC has learnt of them at a Wake
abbrev pub settles_at : ClusterJob → ℕ → ℕ → ℕ
settles_at job started registered =
    let times = job.settings.times in
    max (started + times.lease + 2 * times.drift) (registered + times.lease / 8 + times.drift)

-- what a line has that doesn't name its own
abbrev pub base_of : ClusterJob → Defaults
base_of job = record { settings = job.settings; who = job.who }

-- ---- phases that go well

-- all nodes are started
pub record StartsAll (job : ClusterJob) (s later : ClusterState) : Type 0 where
  pub started : HasStarted job s.situation.around later.situation.around s.calls later.calls later.children later.started
  pub only : later ≡ record s {
    situation = record s.situation { around = later.situation.around };
    calls = later.calls;
    children = later.children;
    started = later.started;
  }

-- what comes is heard until this time
pub record Hears (until : ℕ) (s later : Situation) : Type 0 where
  pub listened : HasListened until s.session.driver.listener s.around.to_come later.around.to_come s.around.to_read later.around.to_read
      later.session.driver.listener
  pub only : later ≡ record s {
    session = record s.session { driver = record s.session.driver { listener = later.session.driver.listener } };
    around = record s.around { to_come = later.around.to_come; to_read = later.around.to_read };
  }

-- the MRC and the OSDs are registered
pub record RegistersAll (job : ClusterJob) (s later : ClusterState) : Type 0 where
  pub registered : HasRegistered job s.situation later.situation later.registered
  pub only : later ≡ record s { situation = later.situation; registered = later.registered }

-- of a situation, only the session, the link and the clock were used
abbrev pub OnlySession : Situation → Situation → Type 0
OnlySession s later = later ≡ record s {
  session = later.session;
  around = later.around;
  counts = record s.counts { link = later.counts.link; clock = later.counts.clock };
}

-- the two lists are made, or end so
pub record Lists (job : ClusterJob) (s later : Situation) (why : Status) : Type 0 where
  pub listed : IsListed (base_of job) s.session later.session s.around later.around s.counts later.counts why
  pub only : OnlySession s later

-- a Stop is sent to each node
pub record Parts (job : ClusterJob) (s later : Situation) : Type 0 where
  pub parted : HasParted job s.around later.around s.session.driver later.session.driver
  pub only : later ≡ record s { session = record s.session { driver = later.session.driver }; around = later.around }

-- all children are waited for
pub record Awaits (s later : ClusterState) : Type 0 where
  pub waits : Waits s.calls later.calls s.children
  pub only : later ≡ record s { calls = later.calls; children = [] }

-- nothing but the situation is another
abbrev pub OnlySituation : ClusterState → ClusterState → Type 0
OnlySituation s later = later ≡ record s { situation = later.situation }

abbrev pub Goes : ClusterJob → Phase → ClusterState → ClusterState → Type 0
Goes job starting s later = StartsAll job s later
Goes job rising s later = Hears (rises_at job s.started) s.situation later.situation × OnlySituation s later
Goes job registering s later = RegistersAll job s later
Goes job listing s later = Lists job s.situation later.situation status.Done × OnlySituation s later
Goes job settling s later = Hears (settles_at job s.started s.registered) s.situation later.situation × OnlySituation s later
Goes job commanding s later = AreLines (base_of job) s.situation later.situation status.Done × OnlySituation s later
Goes job parting s later = Parts job s.situation later.situation × OnlySituation s later
Goes job waiting s later = Awaits s later
Goes job over s later = ⊥

-- It has come from one phase to another.
pub data Comes (job : ClusterJob) (first : Phase) (start : ClusterState) : Phase → ClusterState → Type 0 where
  begun : Comes job first start first start
  gone : (phase : Phase) (s later : ClusterState) → Comes job first start phase s → Goes job phase s later → Comes job first start (phase_after phase) later

-- ---- phases that end it

-- not all nodes are started
pub record EndsStarting (job : ClusterJob) (s later : ClusterState) (why : Status) : Type 0 where
  pub cannot : CannotStart job s.situation.around later.situation.around s.calls later.calls later.children s.situation.counts later.situation.counts
      s.child later.child why
  pub only : later ≡ record s {
    situation = record s.situation { around = later.situation.around; counts = later.situation.counts };
    calls = later.calls;
    child = later.child;
    children = later.children;
  }

-- what comes can't be heard any longer
pub record EndsHearing (until : ℕ) (s later : Situation) (why : Status) : Type 0 where
  pub failed : DriveErr
  pub cannot : CannotListen until s.session.driver.listener s.around.to_come later.around.to_come s.around.to_read later.around.to_read failed
  pub is : why ≡ status_of failed
  pub cause : HasWhy s.counts later.counts why
  pub only : later ≡ record s {
    around = record s.around { to_come = later.around.to_come; to_read = later.around.to_read };
    counts = later.counts;
  }

-- not each node is sent to
pub record EndsParting (job : ClusterJob) (s later : Situation) (why : Status) : Type 0 where
  pub cannot : CannotPart job s.around later.around s.session.driver
  pub is : why ≡ status.OutOfMemory
  pub only : later ≡ record s { around = later.around }

-- not all children are waited for
pub record EndsWaiting (s later : ClusterState) (why : Status) : Type 0 where
  pub front : WaitsFront s.calls later.calls s.children later.children
  pub cause : EndsWait s.child later.child why
  pub only : later ≡ record s { calls = later.calls; child = later.child; children = later.children }

-- What ends a cluster in a phase, before that is reported.
abbrev pub EndsUntold : ClusterJob → Phase → ClusterState → ClusterState → Status → Type 0
EndsUntold job starting s later why = EndsStarting job s later why
EndsUntold job rising s later why = EndsHearing (rises_at job s.started) s.situation later.situation why × OnlySituation s later
EndsUntold job listing s later why = Lists job s.situation later.situation why × (why ≢ status.Done) × OnlySituation s later
EndsUntold job settling s later why = EndsHearing (settles_at job s.started s.registered) s.situation later.situation why × OnlySituation s later
EndsUntold job parting s later why = EndsParting job s.situation later.situation why × OnlySituation s later
EndsUntold job waiting s later why = EndsWaiting s later why
EndsUntold job _ s later why = ⊥

-- the last line of a status is put, and nothing else is done
pub record OnlyTells (why : Status) (s later : ClusterState) (said : Status) : Type 0 where
  pub closes : Closes s.situation.held later.situation.held s.situation.sink later.situation.sink why said
  pub only : later ≡ record s { situation = record s.situation { held = later.situation.held; sink = later.situation.sink } }

-- What ends a cluster in a phase by a command or a line, which has reported it.
abbrev pub EndsTold : ClusterJob → Phase → ClusterState → ClusterState → Status → Type 0
EndsTold job registering s later said = CannotRegister job s.situation later.situation said × OnlySituation s later
EndsTold job commanding s later said = AreLines (base_of job) s.situation later.situation said × (said ≢ status.Done) × OnlySituation s later
EndsTold job _ s later said = ⊥

-- How a cluster ends in a phase: past the last one it is done; else the reason is reported, by a command or a line, or after it.
pub data EndsIn (job : ClusterJob) (phase : Phase) (s : ClusterState) : ClusterState → Status → Type 0 where
  done : phase ≡ over → EndsIn job phase s s status.Done
  untold : (last later : ClusterState) (why said : Status) → EndsUntold job phase s last why → OnlyTells why last later said
      → EndsIn job phase s later said
  told : (later : ClusterState) (said : Status) → EndsTold job phase s later said → EndsIn job phase s later said

-- From one phase on it goes as far as it can, and ends so.
pub record GoesFrom (job : ClusterJob) (first : Phase) (start later : ClusterState) (said : Status) : Type 0 where
  pub phase : Phase
  pub s : ClusterState
  pub comes : Comes job first start phase s
  pub ends : EndsIn job phase s later said
