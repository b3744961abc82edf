-- what a node's messages to itself say, while they wait
use Rattle.std.specs.Prelude.{◌≡◌, ℕ, Some, None, List, [], ◌∷◌, ◌++◌}
use Rattle.xt_base.specs.declared.ids.Epoch.{Epoch}
use Rattle.xt_base.specs.declared.ids.FileId.{FileId}
use Rattle.xt_messages.specs.declared.file.FileHead.{FileHead}
use Rattle.xt_messages.specs.declared.message.Msg.{Msg}
use Rattle.xt_messages.specs.declared.message.Payload.TheVariants as payload
use Rattle.xt_protocol.specs.OsdSteps.{OsdState, file_at}
use Rattle.time_line.specs.declared.line.Line.{Line}
use Rattle.time_line.specs.Bounds.{AreLines}
use Rattle.world_spec.specs.Lines.{begins, goes_on, steps}
use Rattle.world_spec.specs.NodeSteps.{Doing, Room}
use Rattle.world_spec.specs.Rules.{refusal}
use Rattle.world_spec.specs.Runs.{run_of}
use Rattle.world_spec.specs.World.{Node, Running, node_in, osd}
use Rattle.world_runs.specs.View.{awake_as}

-- At any step of a line after a run, a message waits first, and its node is an OSD.
pub record WaitsFirst (room : Room) (d : Doing) (m : Msg) (s : OsdState) : Type 0 where
  pub lines : List Line
  pub l : Line
  pub within : AreLines (lines ++ l ∷ [])
  pub allowed : refusal (run_of room lines) l ≡ None
  pub count : ℕ
  pub at : steps count room (begins (run_of room lines) l) ≡ goes_on d
  pub rest : List Msg
  pub first : d.own ≡ m ∷ rest
  pub node : Node
  pub found : node_in d.world.nodes m.to.0 ≡ Some node
  pub running : Running
  pub up : node.up ≡ Some running
  pub core : running.core ≡ osd s

-- A status that waits first, and that its node sent itself, is of the head that the node has.
abbrev pub OwnStatusesStand : Room → Type 0
OwnStatusesStand room =
    (d : Doing) (m : Msg) (s : OsdState) (file : FileId) (epoch : Epoch) (head : FileHead) → WaitsFirst room d m s
    → m.payload ≡ payload.Status file epoch head → m.from ≡ m.to
    → head ≡ (file_at (awake_as s.started) s.files file).kept.head
