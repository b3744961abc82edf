-- what is kept of a file follows the records of its steps
use Rattle.std.specs.Prelude.{◌≡◌}
use Rattle.xt_base.specs.declared.ids.NodeId.{NodeId}
use Rattle.xt_messages.specs.declared.message.Payload.{Payload}
use Rattle.xt_messages.specs.declared.record.FileRow.{FileRow}
use Rattle.xt_protocol.specs.ReplicaRows.{kept_after}
use Rattle.xt_protocol.specs.FileStates.{FileState, Site, FileStep}
use Rattle.xt_protocol.specs.Overdue.{expired}
use Rattle.xt_protocol.specs.FileSteps.{step_of_file, wake_of_file}

-- the step's record says what is kept after it
abbrev pub FollowsRecord : FileRow → FileStep → Type 0
FollowsRecord row step = step.state.kept ≡ kept_after row step.turned.rec

-- What is kept of a file changes by the record of a step alone.
pub record KeepsByRecord : Type 0 where
  pub expiry : (site : Site) (s : FileState) → FollowsRecord s.kept (expired site s)
  pub message : (site : Site) (s : FileState) (from : NodeId) (content : Payload) → FollowsRecord s.kept (step_of_file site s from content)
  pub wake : (site : Site) (s : FileState) → FollowsRecord s.kept (wake_of_file site s)
