-- whose messages a step of a file sends, and which file they concern
use Rattle.std.specs.Prelude.{◌≡◌, Some, List, [], ◌∷◌}
use Rattle.xt_base.specs.declared.ids.NodeId.{NodeId}
use Rattle.xt_base.specs.declared.ids.FileId.{FileId}
use Rattle.xt_messages.specs.declared.message.Msg.{Msg}
use Rattle.xt_messages.specs.declared.message.Payload.{Payload}
use Rattle.xt_protocol.specs.FileStates.{FileState, Site}
use Rattle.xt_protocol.specs.FileSteps.{step_of_file}
use Rattle.xt_protocol.specs.OsdSteps.{file_concerned}
use Rattle.lease_runs.specs.OsdView.{wake_step}

-- the message has this sender, and concerns this file
abbrev pub IsFrom : NodeId → FileId → Msg → Type 0
IsFrom node file m = (m.from ≡ node) × (file_concerned m.payload ≡ Some file)

abbrev pub AreFrom : NodeId → FileId → List Msg → Type 0
AreFrom node file [] = Unit {0}
AreFrom node file (m ∷ ms) = IsFrom node file m × AreFrom node file ms

-- The messages of a step of a file have the OSD as their sender, and concern that file.
pub record SendsAsItself : Type 0 where
  pub message : (site : Site) (s : FileState) (from : NodeId) (content : Payload)
      → AreFrom site.node s.kept.file (step_of_file site s from content).turned.outs
  pub wake : (site : Site) (s : FileState) → AreFrom site.node s.kept.file (wake_step site s).turned.outs
