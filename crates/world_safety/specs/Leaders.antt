-- that a step of a node is an event that can happen in the file's world, and that who leads still holds after it
use Rattle.std.specs.Prelude.{◌≡◌, ℕ, Some, None, List}
use Rattle.xt_base.specs.declared.ids.FileId.{FileId}
use Rattle.xt_messages.specs.declared.file.Op.{Op}
use Rattle.xt_messages.specs.declared.message.Msg.{Msg}
use Rattle.osd_invariants.specs.Sound.{IsHeld}
use Rattle.xt_protocol.specs.FileStates.{FileStep}
use Rattle.xt_protocol.specs.OsdSteps.{OsdState}
use Rattle.xt_protocol.specs.declared.states.Tenure.{Tenure}
use Rattle.replica_runs.specs.FileView.{IsFree}
use Rattle.file_runs.specs.FileRuns.{FileWorld, Happening, Ending, goes_on, stops_lost, acts, step_on, acted, Comes, OwnComes, MayEnd, May}
use Rattle.world_spec.specs.World.{World, Node, Running, node_in, with_node}
use Rattle.world_runs.specs.Worlds.{IsInOrder, Leads}
use Rattle.world_safety.specs.Seen.{file_seen, Sees}
use Rattle.world_safety.specs.Events.{RunsAs, site_at}
use Rattle.world_safety.specs.May.{LeadersHold}

-- In a world that is in order, where who leads holds, a step of a file at a running OSD can happen, if its message can arrive; and
-- if nobody else holds where it leaves the lease held.
abbrev pub StepsMay : Type 0
StepsMay =
    (stripe : ℕ) (ops : ℕ × ℕ → Op) (members : List ℕ) (file : FileId) (w : World) (own : List Msg) (node : Node) (r : Running) (s : OsdState) (v : FileWorld)
    (happens : Happening) (how : Ending) → IsInOrder w own → RunsAs w node r s → Sees file w v → LeadersHold file w v → Comes stripe ops members v happens → OwnComes node.id.0 (file_seen file s) happens
    → (IsHeld (step_on (site_at node r s) (file_seen file s) happens).state.lease → IsFree node.id.0 v.holder)
    → MayEnd (step_on (site_at node r s) (file_seen file s) happens) how
    → May stripe ops members v (acts node.id.0 (file_seen file s) (site_at node r s) happens how)

-- After a step who leads holds, if nobody else leads where the step leaves a tenure.
abbrev pub LeadersGoOn : Type 0
LeadersGoOn =
    (file : FileId) (w after : World) (node : Node) (r : Running) (s : OsdState) (v : FileWorld) (step : FileStep) → after.nodes ≡ with_node w.nodes node
    → RunsAs after node r s → file_seen file s ≡ step.state
    → ((t : Tenure) → step.state.primary.tenure ≡ Some t → (m : ℕ) → Leads after file m → m ≡ node.id.0)
    → LeadersHold file w v → LeadersHold file after (acted v node.id.0 step goes_on)

-- And after a stop.
abbrev pub LeadersStop : Type 0
LeadersStop =
    (file : FileId) (w after : World) (node : Node) (v : FileWorld) (step : FileStep) → after.nodes ≡ with_node w.nodes node
    → node_in after.nodes node.id.0 ≡ Some node → node.up ≡ None → LeadersHold file w v → LeadersHold file after (acted v node.id.0 step stops_lost)
