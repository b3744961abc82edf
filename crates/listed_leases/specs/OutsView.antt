-- the messages about leases by their files, where lists change
use Rattle.std.specs.Prelude.{ℕ}
use Rattle.xt_base.specs.declared.ids.NodeId.{NodeId}
use Rattle.xt_messages.specs.declared.message.Payload.{Payload}
use Rattle.xt_protocol.specs.FileStates.{FileState, Site}
use Rattle.lease_runs.specs.OutsView.{SendsOfFile}
use Rattle.list_rows.specs.ListRows.{step_of_message}
use Rattle.listed_leases.specs.LeaseView.{listed_wake}

pub record SendsByFile : Type 0 where
  pub message : (site : Site) (s : FileState) (from : NodeId) (list : ℕ) (content : Payload) → SendsOfFile s.kept.file (step_of_message site s from list content)
  pub wake : (site : Site) (s : FileState) → SendsOfFile s.kept.file (listed_wake site s)
