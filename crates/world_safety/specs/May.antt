-- what a step of a file rests on, and who holds the file
use Rattle.std.specs.Prelude.{◌≡◌, ℕ, Some, List}
use Rattle.xt_base.specs.declared.ids.FileId.{FileId}
use Rattle.xt_messages.specs.declared.file.Op.{Op}
use Rattle.xt_messages.specs.declared.message.Msg.{Msg}
use Rattle.xt_protocol.specs.OsdSteps.{OsdState}
use Rattle.xt_protocol.specs.declared.states.Tenure.{Tenure}
use Rattle.replica_runs.specs.FileView.{settled, IsFree}
use Rattle.file_runs.specs.FileRuns.{FileWorld, Event, MayAll, after_all}
use Rattle.world_spec.specs.World.{World, Node, Running}
use Rattle.world_runs.specs.Worlds.{IsInOrder, Leads}
use Rattle.world_safety.specs.Seen.{file_seen, Sees}
use Rattle.world_safety.specs.Events.{RunsAs, site_at}

-- The file's node runs with what the OSD has of the file, at the node itself, over the bodies that are kept; and where a tenure
-- hasn't lapsed, the node leads in the world.
pub record StandsFor (file : FileId) (w : World) (node : Node) (r : Running) (s : OsdState) (v : FileWorld) : Type 0 where
  pub runs : (v.nodes node.id.0).state ≡ Some (file_seen file s)
  pub here : (site_at node r s).node.0 ≡ node.id.0
  pub bodies : (site_at node r s).body (file_seen file s).kept.file ≡ (v.nodes node.id.0).body
  pub leads : (t : Tenure) → (settled (site_at node r s) (file_seen file s)).primary.tenure ≡ Some t → Leads w file node.id.0

abbrev pub StepsStand : Type 0
StepsStand =
    (file : FileId) (w : World) (own : List Msg) (node : Node) (r : Running) (s : OsdState) (v : FileWorld) → IsInOrder w own → RunsAs w node r s
    → Sees file w v → StandsFor file w node r s v

-- who leads a file in the world holds it in the file's world
abbrev pub LeadersHold : FileId → World → FileWorld → Type 0
LeadersHold file w v = (n : ℕ) → Leads w file n → v.holder ≡ Some n

-- Nobody but this node holds the file, once who doesn't lead has lost it.
pub record IsFreed (stripe : ℕ) (ops : ℕ × ℕ → Op) (members : List ℕ) (file : FileId) (w : World) (n : ℕ) (v : FileWorld) : Type 0 where
  pub lost : List Event
  pub may : MayAll stripe ops members v lost
  pub sees : Sees file w (after_all v lost)
  pub leaders : LeadersHold file w (after_all v lost)
  pub same_sent : (after_all v lost).sent ≡ v.sent
  pub same_tales : (after_all v lost).tales ≡ v.tales
  pub free : IsFree n (after_all v lost).holder

abbrev pub HoldersMakeRoom : Type 0
HoldersMakeRoom =
    (stripe : ℕ) (ops : ℕ × ℕ → Op) (members : List ℕ) (file : FileId) (w : World) (n : ℕ) (v : FileWorld) → Sees file w v → LeadersHold file w v
    → ((m : ℕ) → Leads w file m → m ≡ n) → IsFreed stripe ops members file w n v
