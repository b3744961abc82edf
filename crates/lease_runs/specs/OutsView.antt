-- the messages about leases by their files
use Rattle.std.specs.Prelude.{◌≡◌, false, []}
use Rattle.xt_base.specs.declared.ids.NodeId.{NodeId}
use Rattle.xt_base.specs.declared.ids.FileId.{FileId}
use Rattle.xt_messages.specs.declared.message.Payload.{Payload}
use Rattle.xt_protocol.specs.FileIds.{is_file}
use Rattle.xt_protocol.specs.FileStates.{FileState, Site, FileStep}
use Rattle.xt_protocol.specs.FileSteps.{step_of_file}
use Rattle.lease_runs.specs.LeaseView.{leases_and_asks, lease_outs}
use Rattle.lease_runs.specs.OsdView.{wake_step}

-- what a step sends about leases is about the lease of its file
pub record SendsOfFile (file : FileId) (step : FileStep) : Type 0 where
  pub own : lease_outs file step.turned.outs ≡ leases_and_asks step.turned.outs
  pub others : (other : FileId) → is_file file other ≡ false → lease_outs other step.turned.outs ≡ []

pub record SendsByFile : Type 0 where
  pub message : (site : Site) (s : FileState) (from : NodeId) (content : Payload) → SendsOfFile s.kept.file (step_of_file site s from content)
  pub wake : (site : Site) (s : FileState) → SendsOfFile s.kept.file (wake_step site s)
