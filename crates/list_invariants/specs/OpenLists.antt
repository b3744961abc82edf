-- steps on messages of the open list, and on others
use Rattle.std.specs.Prelude.{◌≡◌, ℕ, true}
use Rattle.xt_base.specs.declared.ids.NodeId.{NodeId}
use Rattle.xt_messages.specs.Limits.{is_of_list}
use Rattle.xt_messages.specs.declared.file.Capability.{Capability}
use Rattle.xt_messages.specs.declared.file.Op.{Op}
use Rattle.xt_messages.specs.declared.message.Payload.{Payload}
use Rattle.xt_messages.specs.declared.message.Payload.TheVariants as payload
use Rattle.xt_protocol.specs.FileStates.{FileState, Site, FileStep, and_then}
use Rattle.xt_protocol.specs.Overdue.{expired}
use Rattle.xt_protocol.specs.FileSteps.{step_of_file}
use Rattle.list_rows.specs.ListRows.{list_version, step_of_message, with_version}
use Rattle.list_laws.specs.Takes.{IsOpenAt, PassesRows}
use Rattle.list_laws.specs.Outcomes.{RowGives}

-- The step of the rows of one list, whose messages carry the version; or what is overdue, and then a row of its own.
pub data StepIs (site : Site) (s : FileState) (from : NodeId) (list : ℕ) (content : Payload) (step : FileStep) : Type 0 where
  by_rows : PassesRows site s list content → step ≡ with_version (list_version s.kept.location) (step_of_file site s from content)
      → StepIs site s from list content step
  by_own : (row : FileState → FileStep) → RowGives site (expired site s).state from content (row (expired site s).state)
      → step ≡ with_version (list_version s.kept.location) (and_then (expired site s) row) → StepIs site s from list content step

-- What is of the open list comes to the rows of one list.
pub record OpenListsAreTaken : Type 0 where
  pub message : (site : Site) (s : FileState) (from : NodeId) (list : ℕ) (content : Payload) → is_of_list content ≡ true → IsOpenAt s list
      → step_of_message site s from list content ≡ with_version (list_version s.kept.location) (step_of_file site s from content)
  pub ask : (site : Site) (s : FileState) (from : NodeId) (list number : ℕ) (capability : Capability) (asked : Op) → IsOpenAt s capability.location.version
      → step_of_message site s from list (payload.Ask number capability asked)
      ≡ with_version (list_version s.kept.location) (step_of_file site s from (payload.Ask number capability asked))
