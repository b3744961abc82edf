-- a cluster from its start to its end
use Rattle.std.specs.Prelude.{ℕ, ◌≡◌, ◌⊎◌, Option, List, []}
use Rattle.xt_messages.specs.declared.status.Status.{Status}
use Rattle.node_links.specs.declared.children.ChildCall.{ChildCall}
use Rattle.client_loop.specs.Carrying.{Around}
use Rattle.client_jobs.specs.Running.{Counts, Closes}
use Rattle.client_jobs.specs.declared.session.CommandSession.{CommandSession}
use Rattle.command_words.specs.declared.job.ClusterJob.{ClusterJob}
use Rattle.cluster_children.specs.Calls.{Stops}
use Rattle.cluster_job.specs.Opening.{HasOpened, CannotOpen}
use Rattle.cluster_job.specs.Phases.{ClusterState, Phase, starting, GoesFrom}

-- What is around the command: a link and a clock, what its source has left and what its sink holds, the calls of its spawner, and how often
-- each of them has failed.
pub record Moment : Type 0 where
  pub around : Around
  pub left : Option (List ℕ)
  pub held : Option (List ℕ)
  pub calls : Option (List ChildCall)
  pub counts : Counts
  pub sink : ℕ
  pub child : ℕ

-- how all stands as its session begins
abbrev pub begins_at : Moment → CommandSession → ClusterState
begins_at m session = record {
  situation = record { session = session; around = m.around; left = m.left; held = m.held; counts = m.counts; sink = m.sink };
  calls = m.calls;
  child = m.child;
  children = [];
  started = 0;
  registered = 0;
}

abbrev pub moment_of : ClusterState → Moment
moment_of s = record {
  around = s.situation.around;
  left = s.situation.left;
  held = s.situation.held;
  calls = s.calls;
  counts = s.situation.counts;
  sink = s.situation.sink;
  child = s.child;
}

-- There is no end of the link: the reason is reported, and nothing else is done.
pub record EndsUnopened (before after : Moment) (said : Status) : Type 0 where
  pub why : Status
  pub cannot : CannotOpen before.around after.around before.counts after.counts why
  pub closes : Closes before.held after.held before.sink after.sink why said
  pub only : after ≡ record before { around = after.around; held = after.held; counts = after.counts; sink = after.sink }

-- From one phase on it goes as far as it can, and ends so: this is around it then, and these children weren't waited for.
pub record EndsFrom (job : ClusterJob) (first : Phase) (start : ClusterState) (after : Moment) (children : List ℕ) (said : Status) : Type 0 where
  pub last : ClusterState
  pub goes : GoesFrom job first start last said
  pub around : after ≡ moment_of last
  pub left : children ≡ last.children

-- The link is bound and the clock is read, and then it goes from phase to phase.
pub record EndsOpened (job : ClusterJob) (before after : Moment) (children : List ℕ) (said : Status) : Type 0 where
  pub opened : Around
  pub session : CommandSession
  pub opens : HasOpened job before.around opened session
  pub ends : EndsFrom job starting (begins_at (record before { around = opened }) session) after children said

abbrev pub Leads : ClusterJob → Moment → Moment → List ℕ → Status → Type 0
Leads job before after children said =
    (EndsUnopened before after said × (children ≡ [])) ⊎ EndsOpened job before after children said

-- What the command `cluster` does: it goes as far as it can, and then stops each child that it hasn't waited for, once.
pub record IsClusterJob (job : ClusterJob) (before after : Moment) (said : Status) : Type 0 where
  pub last : Moment
  pub children : List ℕ
  pub leads : Leads job before last children said
  pub stops : Stops last.calls after.calls last.child after.child children
  pub only : after ≡ record last { calls = after.calls; child = after.child }
