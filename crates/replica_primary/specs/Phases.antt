-- how far a primary is
use Rattle.std.specs.Prelude.{Option, Some, None, List, length}
use Rattle.xt_protocol.specs.declared.states.Peer.{Peer}
use Rattle.xt_protocol.specs.declared.states.Progress.{Progress}
use Rattle.xt_protocol.specs.declared.states.Progress.TheVariants as progress
use Rattle.xt_protocol.specs.declared.states.Tenure.{Tenure}
use Rattle.xt_protocol.specs.Primaries.{statuses_counted}
use Rattle.replica_primary.specs.declared.primary.Phase.{Phase}
use Rattle.replica_primary.specs.declared.primary.Phase.TheVariants as phase

abbrev pub phase_in : List Peer → Progress → Phase
phase_in peers progress.Gathering = phase.Gathering (statuses_counted peers)
phase_in peers (progress.Fetching chosen source asked later) = phase.Fetching
phase_in peers (progress.Installing chosen acked) = phase.Installing (length acked)
phase_in peers (progress.Active committed None) = phase.Active None 0
phase_in peers (progress.Active committed (Some issued)) = phase.Active (Some issued.update.id) (length issued.acked)

abbrev pub phase_of : Option Tenure → Phase
phase_of None = phase.Idle
phase_of (Some t) = phase_in t.peers t.progress
