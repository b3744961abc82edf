-- the nodes of a cluster, registered one after the other
use Rattle.std.proofs.Common.{ℕ, suc, ◌≡◌, ◌<◌, ◌+◌, ◌-◌, refl, sym, ◌∙◌, ap, subst, Option, List, [], ◌∷◌, ◌++◌, arith}
use Rattle.xt_messages.specs.declared.status.Status.{Status}
use Rattle.xt_messages.specs.declared.status.Status.TheVariants as status
use Rattle.node_links.specs.declared.link.Datagram.{Datagram}
use Rattle.node_runs.specs.Links.{Reads}
use Rattle.client_jobs.specs.Running.{HasWhy, Closes}
use Rattle.client_jobs.specs.declared.session.CommandSession.{CommandSession}
use Rattle.command_words.specs.declared.job.ClusterJob.{ClusterJob}
use Rattle.cluster_words.specs.declared.children.ClusterNode.TheVariants as node
use Rattle.cluster_children.specs.Calls.{osds_to}
use Rattle.cluster_children.proofs.Called.{osds_front}
use Rattle.cluster_lines.specs.Lines.{Situation}
use Rattle.cluster_job.specs.Registering.{registration_of, registered_of, RunsLine, Registers, none, one_more, ReadsOnce, OnlyCloses, IsNotRegistered, CannotRegister, at_node}

-- the first
pub registers_first : (job : ClusterJob) (s later : Situation) → RunsLine (registration_of job node.Mrc) s later status.Done → Registers job s (registered_of 0) later
registers_first job s later ran = one_more [] node.Mrc s later none ran

registered-more : (osds : ℕ) → registered_of (osds + 1) ≡ registered_of osds ++ node.Osd (osds + 1) ∷ []
registered-more osds =
    let next : osds + 1 ≡ suc osds = omega arith in
    ap registered_of next ∙ ap (λ n. registered_of osds ++ node.Osd n ∷ []) (sym next)

-- one more
pub registers_osd : (job : ClusterJob) (start s later : Situation) (osds : ℕ) → Registers job start (registered_of osds) s
    → RunsLine (registration_of job (node.Osd (osds + 1))) s later status.Done → Registers job start (registered_of (osds + 1)) later
registers_osd job start s later osds so_far ran =
    subst (λ nodes. Registers job start nodes later) (sym (registered-more osds)) (one_more (registered_of osds) (node.Osd (osds + 1)) s later so_far ran)

-- the first isn't
pub fails_first : (job : ClusterJob) (s later : Situation) (said : Status) → IsNotRegistered job node.Mrc s later said → CannotRegister job s later said
fails_first job s later said not = at_node [] (osds_to job.osds) node.Mrc s refl none not

-- the next one isn't
pub fails_osd : (job : ClusterJob) (start s later : Situation) (osds : ℕ) (said : Status) → osds < job.osds → Registers job start (registered_of osds) s
    → IsNotRegistered job (node.Osd (osds + 1)) s later said → CannotRegister job start later said
fails_osd job start s later osds said less so_far not =
    let front = osds_front job.osds osds (job.osds - osds - 1) (omega arith) in
    at_node (registered_of osds) front.0 (node.Osd (osds + 1)) s (ap (λ nodes. node.Mrc ∷ nodes) front.1) so_far not

-- all are
pub registers_all : (job : ClusterJob) (start s : Situation) (osds : ℕ) → osds ≡ job.osds → Registers job start (registered_of osds) s
    → Registers job start (registered_of job.osds) s
registers_all job start s osds all so_far = subst (λ n. Registers job start (registered_of n) s) all so_far

-- ---- the clock, after the last one

module _ (session : CommandSession) (given sent : Option (List Datagram)) (losses : ℕ) (to_read : Option (List ℕ)) (left held : Option (List ℕ)) (link clock source sink : ℕ) where
  abbrev before_reading : Situation
  before_reading = record {
    session = session;
    around = record { to_come = given; sent = sent; losses = losses; to_read = to_read };
    left = left;
    held = held;
    counts = record { link = link; clock = clock; source = source };
    sink = sink;
  }

  abbrev after_reading : Option (List ℕ) → Option (List ℕ) → ℕ → ℕ → Situation
  after_reading unread later now risen = record {
    session = session;
    around = record { to_come = given; sent = sent; losses = losses; to_read = unread };
    left = left;
    held = later;
    counts = record { link = link; clock = now; source = source };
    sink = risen;
  }

  -- it was read
  pub reads_once : (unread : Option (List ℕ)) (now reading : ℕ) → now ≡ clock → Reads to_read unread (reading ∷ [])
      → ReadsOnce before_reading (after_reading unread held now sink) reading
  reads_once unread now reading same reads =
      subst (λ n. ReadsOnce before_reading (after_reading unread held n sink) reading) (sym same)
      (record { reads = record { reads = reads; only = refl }; only = refl })

  -- it wasn't, which is reported
  pub closes_unread : (unread later : Option (List ℕ)) (now risen count : ℕ) (why said : Status) → why ≡ status.ClockFault count → unread ≡ to_read
      → HasWhy (record { link = link; clock = clock; source = source }) (record { link = link; clock = now; source = source }) why
      → Closes held later sink risen why said → OnlyCloses (status.ClockFault count) before_reading (after_reading unread later now risen) said
  closes_unread unread later now risen count why said is same cause closes =
      subst (λ o. OnlyCloses (status.ClockFault count) before_reading (after_reading o later now risen) said) (sym same)
      (record {
        closes = subst (λ s. Closes held later sink risen s said) is closes;
        cause = subst (HasWhy (record { link = link; clock = clock; source = source }) (record { link = link; clock = now; source = source })) is cause;
        only = refl;
      })
