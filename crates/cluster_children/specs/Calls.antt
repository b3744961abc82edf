-- the calls by which the nodes of a cluster are started, waited for and stopped, as children
use Rattle.std.specs.Prelude.{ℕ, ℤ, zero, suc, ◌≡◌, Bool, true, false, not, Option, List, [], ◌∷◌, ◌++◌, length, fold}
use Rattle.xt_base.specs.Faults.{Rose, fault_count_after}
use Rattle.xt_messages.specs.declared.status.Status.{Status}
use Rattle.xt_messages.specs.declared.status.Status.TheVariants as status
use Rattle.node_links.specs.declared.children.ChildCall.{ChildCall}
use Rattle.node_links.specs.declared.children.ChildCall.TheVariants as call
use Rattle.node_links.specs.Streams.{Puts}
use Rattle.command_words.specs.declared.job.ClusterJob.{ClusterJob}
use Rattle.cluster_words.specs.declared.children.ClusterNode.{ClusterNode}
use Rattle.cluster_words.specs.declared.children.ClusterNode.TheVariants as node
use Rattle.cluster_words.specs.Children.{child_words}

-- ---- which nodes there are

-- the OSDs, numbered from 1
abbrev pub osds_to : ℕ → List ClusterNode
osds_to zero = []
osds_to (suc before) = osds_to before ++ node.Osd (suc before) ∷ []

-- all nodes, in the order in which they are started
abbrev pub nodes_of : ℕ → List ClusterNode
nodes_of osds = node.Dir ∷ node.Mrc ∷ osds_to osds

-- ---- starting

-- each node is started with its words, and is then the child of the number that it was given
abbrev pub starts_of : ClusterJob → List ClusterNode → List ℕ → List ChildCall
starts_of job (n ∷ nodes) (child ∷ children) = call.Started (child_words job n) child ∷ starts_of job nodes children
starts_of job _ _ = []

-- one node was started, and is the last of these children
abbrev pub StartsOne : ClusterJob → ClusterNode → Option (List ChildCall) → Option (List ChildCall) → List ℕ → List ℕ → Type 0
StartsOne job n before after children more =
    (child : ℕ) × (more ≡ children ++ child ∷ []) × Puts before after (call.Started (child_words job n) child ∷ [])

-- These nodes were started, one after the other, and are these children.
pub record Starts (job : ClusterJob) (before after : Option (List ChildCall)) (nodes : List ClusterNode) (children : List ℕ) : Type 0 where
  pub each : length children ≡ length nodes
  pub calls : Puts before after (starts_of job nodes children)

-- The nodes before one were started, and that one wasn't.
pub record StartsFront (job : ClusterJob) (before after : Option (List ChildCall)) (nodes : List ClusterNode) (children : List ℕ) : Type 0 where
  pub front : List ClusterNode
  pub next : ClusterNode
  pub rest : List ClusterNode
  pub is : nodes ≡ front ++ next ∷ rest
  pub started : Starts job before after front children

-- Why a node isn't started: the spawner failed, and its count rose; or memory ran out.
abbrev pub EndsStart : ℕ → ℕ → Status → Type 0
EndsStart faults later (status.ChildFault count) = Rose faults later × (count ≡ later)
EndsStart faults later status.OutOfMemory = later ≡ faults
EndsStart faults later _ = ⊥

-- ---- waiting

abbrev pub waits_of : List ℕ → List ℤ → List ChildCall
waits_of (child ∷ children) (ended ∷ statuses) = call.Waited child ended ∷ waits_of children statuses
waits_of _ _ = []

-- whether the first of these children was waited for: so it is wherever there is one, and the others are left
abbrev pub HasWaited : List ℕ → List ℕ → Option (List ChildCall) → Option (List ChildCall) → Bool → Type 0
HasWaited children others before after true =
    (child : ℕ) × (ended : ℤ) × (children ≡ child ∷ others) × Puts before after (call.Waited child ended ∷ [])
HasWaited children others before after false = (children ≡ []) × (others ≡ []) × (after ≡ before)

-- These children were waited for, one after the other.
pub record Waits (before after : Option (List ChildCall)) (children : List ℕ) : Type 0 where
  pub statuses : List ℤ
  pub each : length statuses ≡ length children
  pub calls : Puts before after (waits_of children statuses)

-- A front of the children was waited for; these are the others.
pub record WaitsFront (before after : Option (List ChildCall)) (children others : List ℕ) : Type 0 where
  pub waited : List ℕ
  pub is : children ≡ waited ++ others
  pub waits : Waits before after waited

-- Why a child isn't waited for: the spawner failed, and its count rose.
abbrev pub EndsWait : ℕ → ℕ → Status → Type 0
EndsWait faults later (status.ChildFault count) = Rose faults later × (count ≡ later)
EndsWait faults later _ = ⊥

-- ---- stopping

-- the stops that didn't fail
abbrev pub stops_of : List ℕ → List Bool → List ChildCall
stops_of (child ∷ children) (true ∷ went) = call.Stopped child ∷ stops_of children went
stops_of (child ∷ children) (false ∷ went) = stops_of children went
stops_of _ _ = []

-- each call that failed is counted
abbrev pub count_failed : ℕ → List Bool → ℕ
count_failed faults went = fold (λ count ok. fault_count_after (not ok) count) faults went

-- Each of these children was to be stopped once, one after the other; where that failed, it was counted.
pub record Stops (before after : Option (List ChildCall)) (faults later : ℕ) (children : List ℕ) : Type 0 where
  pub went : List Bool
  pub each : length went ≡ length children
  pub calls : Puts before after (stops_of children went)
  pub counts : later ≡ count_failed faults went
