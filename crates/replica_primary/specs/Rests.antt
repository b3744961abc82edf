-- the heads on which a primary stands
use Rattle.std.specs.Prelude.{Option, Some, None, List}
use Rattle.xt_base.specs.declared.ids.NodeId.{NodeId}
use Rattle.xt_messages.specs.declared.file.FileHead.{FileHead}
use Rattle.xt_protocol.specs.declared.states.Peer.{Peer}
use Rattle.xt_protocol.specs.declared.states.Progress.{Progress}
use Rattle.xt_protocol.specs.declared.states.Progress.TheVariants as progress
use Rattle.xt_protocol.specs.declared.states.Tenure.{Tenure}
use Rattle.xt_protocol.specs.Primaries.{peer_in, reported}

-- the head that a primary has chosen, until a majority has it
abbrev pub chosen_in : Progress → Option FileHead
chosen_in (progress.Fetching chosen source asked later) = Some chosen
chosen_in (progress.Installing chosen acked) = Some chosen
chosen_in progress.Gathering = None
chosen_in (progress.Active committed issued) = None

abbrev pub chosen_by : Option Tenure → Option FileHead
chosen_by None = None
chosen_by (Some t) = chosen_in t.progress

-- the head that it rests on: the committed one, and the own node's while statuses are counted
abbrev pub rested_on : NodeId → List Peer → Progress → Option FileHead
rested_on node peers progress.Gathering = reported (peer_in peers node)
rested_on node peers (progress.Active committed issued) = Some committed
rested_on node peers (progress.Fetching chosen source asked later) = None
rested_on node peers (progress.Installing chosen acked) = None

abbrev pub rests_on : NodeId → Option Tenure → Option FileHead
rests_on node None = None
rests_on node (Some t) = rested_on node t.peers t.progress
