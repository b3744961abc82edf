-- what is kept of a file follows the records of its steps, where lists change
use Rattle.std.specs.Prelude.{ℕ}
use Rattle.xt_base.specs.declared.ids.NodeId.{NodeId}
use Rattle.xt_messages.specs.declared.message.Payload.{Payload}
use Rattle.xt_protocol.specs.FileStates.{FileState, Site}
use Rattle.osd_invariants.specs.Keeping.{FollowsRecord}
use Rattle.list_rows.specs.ListRows.{step_of_message, wake_of_listed}

-- What is kept of a file changes by the record of a step alone.
pub record KeepsByRecord : Type 0 where
  pub message : (site : Site) (s : FileState) (from : NodeId) (list : ℕ) (content : Payload) → FollowsRecord s.kept (step_of_message site s from list content)
  pub wake : (site : Site) (s : FileState) → FollowsRecord s.kept (wake_of_listed site s)
