-- what holds of the state of a file, where lists change
use Rattle.std.specs.Prelude.{ℕ}
use Rattle.xt_base.specs.declared.ids.NodeId.{NodeId}
use Rattle.xt_messages.specs.declared.message.Payload.{Payload}
use Rattle.xt_protocol.specs.FileStates.{FileState, Site}
use Rattle.osd_invariants.specs.Sound.{IsSound}
use Rattle.list_rows.specs.ListRows.{step_of_message, wake_of_listed}

-- Every step on a message of any list keeps a file sound, and so does a Wake.
pub record StaysSound : Type 0 where
  pub message : (site : Site) (s : FileState) (from : NodeId) (list : ℕ) (content : Payload) → IsSound s → IsSound (step_of_message site s from list content).state
  pub wake : (site : Site) (s : FileState) → IsSound s → IsSound (wake_of_listed site s).state
