-- what is around the program
use Rattle.std.specs.Prelude.{ℕ, ◌≡◌, Option, List}
use Rattle.node_links.specs.declared.children.ChildCall.{ChildCall}
use Rattle.node_links.specs.declared.link.Datagram.{Datagram}
use Rattle.node_jobs.specs.Jobs.{Outside}
use Rattle.client_loop.specs.Carrying.{Around}
use Rattle.client_jobs.specs.Running.{Counts}
use Rattle.cluster_job.specs.Cluster.{Moment}

-- The state of what is around the program at a moment, as far as it is known: what its source has left and what its sink holds, what its
-- link is to give and has sent and how many datagrams were lost, what its clock is to read, its disk, the calls of its spawner, and how
-- often the source, the sink, the link, the clock and the spawner have failed.
pub record Environment (D : Type 0) : Type 0 where
  pub left : Option (List ℕ)
  pub held : Option (List ℕ)
  pub given : Option (List Datagram)
  pub sent : Option (List Datagram)
  pub losses : ℕ
  pub readings : Option (List ℕ)
  pub disk : D
  pub calls : Option (List ChildCall)
  pub source_faults : ℕ
  pub sink_faults : ℕ
  pub link_faults : ℕ
  pub clock_faults : ℕ
  pub child_faults : ℕ

module _ {D : Type 0} where
  -- the part of it that a node uses
  abbrev pub outside : Environment D → Outside D
  outside e = record { given = e.given; sent = e.sent; losses = e.losses; readings = e.readings; held = e.held; disk = e.disk }

  -- the part of it that a client command uses
  abbrev pub around : Environment D → Around
  around e = record { to_come = e.given; sent = e.sent; losses = e.losses; to_read = e.readings }

  abbrev pub counts : Environment D → Counts
  counts e = record { link = e.link_faults; clock = e.clock_faults; source = e.source_faults }

  -- the part of it that a cluster uses
  abbrev pub moment : Environment D → Moment
  moment e =
      record { around = around e; left = e.left; held = e.held; calls = e.calls; counts = counts e; sink = e.sink_faults; child = e.child_faults }

  -- the link wasn't used
  pub record IsOffline (before after : Environment D) : Type 0 where
    pub given : after.given ≡ before.given
    pub sent : after.sent ≡ before.sent
    pub losses : after.losses ≡ before.losses
    pub faults : after.link_faults ≡ before.link_faults

  -- the clock wasn't used
  pub record IsTimeless (before after : Environment D) : Type 0 where
    pub readings : after.readings ≡ before.readings
    pub faults : after.clock_faults ≡ before.clock_faults

  -- no child was started, stopped or waited for
  pub record IsChildless (before after : Environment D) : Type 0 where
    pub calls : after.calls ≡ before.calls
    pub faults : after.child_faults ≡ before.child_faults

  -- nothing was taken of the source
  pub record IsUnread (before after : Environment D) : Type 0 where
    pub left : after.left ≡ before.left
    pub faults : after.source_faults ≡ before.source_faults

  -- the link, the clock, the disk and the spawner weren't used
  pub record IsAlone (before after : Environment D) : Type 0 where
    pub given : after.given ≡ before.given
    pub sent : after.sent ≡ before.sent
    pub losses : after.losses ≡ before.losses
    pub readings : after.readings ≡ before.readings
    pub disk : after.disk ≡ before.disk
    pub link_faults : after.link_faults ≡ before.link_faults
    pub clock_faults : after.clock_faults ≡ before.clock_faults
    pub childless : IsChildless before after
