-- the declared nodes over a hull
use Rattle.std.specs.Prelude.{ℕ, Bool, true, false, ◌≡◌, ◌<◌, ◌==◌, if◌then◌else◌, Option, Some, None, List, [], ◌∷◌, ◌++◌, length, slice_get, slice_set, slice_index_or}
use Rattle.std.specs.Option.{option_map}
use Rattle.std.specs.List.{AllByRecursion}
use Rattle.xt_base.specs.TimeSettings.{TimeSettings}
use Rattle.xt_base.specs.declared.ids.NodeId.{NodeId}
use Rattle.xt_messages.specs.declared.event.Call.{Call}
use Rattle.xt_messages.specs.declared.event.Event.{Event}
use Rattle.xt_messages.specs.declared.record.Record.{Record}
use Rattle.xt_messages.specs.declared.record.KeepBody.{KeepBody}
use Rattle.xt_protocol.specs.declared.turned.Turned.{Turned}
use Rattle.client_rows.specs.Steps.{Step}
use Rattle.client_rows.specs.Rows.{WholeClient}
use Rattle.world_spec.specs.declared.PlacedFile.{PlacedFile}
use Rattle.world_spec.specs.World.{World, Node, Deed, puts, loads, Running, Core, client, node_in, with_node}
use Rattle.world_spec.specs.NodeSteps.{Room, core_step, one_more, one_put, forgets_in}
use Rattle.world_hull.specs.declared.hull.Kept.{Kept}
use Rattle.world_hull.specs.declared.hull.Kept.TheVariants as ending
use Rattle.world_host.specs.Hosts.{HostView, Stored, nothing_stored}
use Rattle.world_host.specs.Turns.{IsNoClient, call_step, again_step}

-- the times of a world, and its nodes with what the hull has stored for them
pub record NodesView : Type 0 where
  pub times : TimeSettings
  pub nodes : List Node

-- a world of these nodes in which nothing else is
abbrev pub bare : NodesView → World
bare view = record { times = view.times; nodes = view.nodes; files = []; made = []; sent = []; entries = []; lines = []; ended = false }

-- whether one of them has this id
abbrev pub has_host : List HostView → ℕ → Bool
has_host [] id = false
has_host (h ∷ hs) id = if h.id.0 == id then true else has_host hs id

-- no two have one id
abbrev pub AreDistinct : List HostView → Type 0
AreDistinct [] = Unit {0}
AreDistinct (h ∷ hs) = (has_host hs h.id.0 ≡ false) × AreDistinct hs

-- No two nodes have one id, each steps by the world's times, and something is stored for declared nodes only.
pub record AreHosts (stored : ℕ → Stored) (times : TimeSettings) (hosts : List HostView) : Type 0 where
  pub distinct : AreDistinct hosts
  pub timed : AllByRecursion (λ (h : HostView). h.times ≡ times) hosts
  pub others : (id : ℕ) → has_host hosts id ≡ false → stored id ≡ nothing_stored

-- ---- one node

-- the node is there, the first of its id
pub record IsAt (nodes : List Node) (place : ℕ) (node : Node) : Type 0 where
  pub inside : place < length nodes
  pub here : slice_get nodes place ≡ Some node
  pub found : node_in nodes node.id.0 ≡ Some node
  pub put : (next : Node) → next.id ≡ node.id → with_node nodes next ≡ slice_set nodes place next

-- where the node of this id stands, if it is there
abbrev pub IsPlace : List Node → NodeId → Option ℕ → Type 0
IsPlace nodes id None = node_in nodes id.0 ≡ None
IsPlace nodes id (Some place) = (node : Node) × IsAt nodes place node × (node.id ≡ id)

-- the node there is changed so
abbrev pub Changes : NodesView → ℕ → (Node → Node) → NodesView → Type 0
Changes old place change new = (node : Node) → IsAt old.nodes place node → new ≡ record old { nodes = with_node old.nodes (change node) }

-- how the node there runs is changed so
abbrev pub ChangesUp : NodesView → ℕ → (Running → Running) → NodesView → Type 0
ChangesUp old place change new = Changes old place (λ node. record node { up = option_map change node.up }) new

-- ---- steps

-- a running node took this step, which left it this core
abbrev pub NodeTook : NodesView → Node → Running → Step Core → NodesView → Turned → Type 0
NodeTook old node running step new turned =
    (node.up ≡ Some running) × (turned ≡ step.turned)
    × (new ≡ record old { nodes = with_node old.nodes (record node { up = Some (record running { core = step.state }) }) })

-- an event came to a node; one that doesn't run took no step
abbrev pub NodeHandles : Event → NodesView → Node → NodesView → Option Turned → Type 0
NodeHandles happens old node new None = (node.up ≡ None) × (new ≡ old)
NodeHandles happens old node new (Some turned) =
    (running : Running) × NodeTook old node running (core_step old.times node running.core running.clock happens) new turned

-- the node as its steps see it, by these times
abbrev pub host_at : TimeSettings → Node → HostView
host_at times node = record { id = node.id; role = node.role; times = times; up = node.up }

-- the client there took this step from its state; any other node, and one that doesn't run, took none
abbrev pub NodeClientTook : (HostView → Running → WholeClient → Step Core) → NodesView → Node → NodesView → Option Turned → Type 0
NodeClientTook step old node new None = ((running : Running) → node.up ≡ Some running → IsNoClient running.core) × (new ≡ old)
NodeClientTook step old node new (Some turned) =
    (running : Running) × (state : WholeClient) × (running.core ≡ client state)
    × NodeTook old node running (step (host_at old.times node) running state) new turned

-- a client made a call
abbrev pub NodeCalls : Call → Option PlacedFile → NodesView → Node → NodesView → Option Turned → Type 0
NodeCalls c declared old node new turned =
    NodeClientTook (λ host running state. call_step host running.clock state c declared) old node new turned

-- a client made its last call again
abbrev pub NodeCallsAgain : NodesView → Node → NodesView → Option Turned → Type 0
NodeCallsAgain old node new turned = NodeClientTook (λ host running state. again_step host running.clock state) old node new turned

-- ---- records

-- what a node keeps after the append of a record that ended so
abbrev pub kept_when : List Record → Record → Kept → List Record
kept_when kept rec ending.Done = kept ++ rec ∷ []
kept_when kept rec ending.StoppedKept = kept ++ rec ∷ []
kept_when kept rec ending.StoppedLost = kept

-- and what was done to its records then
abbrev pub past_when : List Deed → Record → Kept → List Deed
past_when past rec ending.Done = past ++ puts rec ∷ []
past_when past rec ending.StoppedKept = past ++ puts rec ∷ []
past_when past rec ending.StoppedLost = past

-- a node after the append of a record that ended so
abbrev pub after_append : Record → Kept → Node → Node
after_append rec end node = record node { kept = kept_when node.kept rec end; past = past_when node.past rec end }

-- a node whose records were loaded
abbrev pub after_load : Node → Node
after_load node = record node { past = node.past ++ loads ∷ [] }

-- a node after the append of a step's record, if it has one
abbrev pub after_put : Option Record → Node → Node
after_put rec node = record node { kept = one_more node.kept rec; past = one_put node.past rec }

-- ---- forgetting

-- the nodes once this one of them, if it is there, forgot what it doesn't need: where it runs, and its records are rewritten now
abbrev pub forgotten_in : (List Deed → List KeepBody → Bool) → NodesView → Option Node → List Node
forgotten_in decides view found = (forgets_in decides (bare view) found).nodes

-- the node there forgot so
abbrev pub Forgets : Room → NodesView → ℕ → NodesView → Type 0
Forgets room old place new = (node : Node) → IsAt old.nodes place node → new ≡ record old { nodes = forgotten_in room.rewrites_now old (Some node) }

-- ---- lists of nodes as code has them

-- where a node of this id stands, if one is there
abbrev pub IsHostPlace : List HostView → NodeId → Option ℕ → Type 0
IsHostPlace hosts id None = has_host hosts id.0 ≡ false
IsHostPlace hosts id (Some place) = (place < length hosts) × ((d : HostView) → (slice_index_or hosts place d).id ≡ id)
