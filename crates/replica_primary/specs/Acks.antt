-- what an acknowledgement makes of a tenure
use Rattle.std.specs.Prelude.{ℕ, Bool, true, false, if◌then◌else◌, Some, None, List, []}
use Rattle.xt_base.specs.declared.ids.NodeId.{NodeId}
use Rattle.xt_messages.specs.declared.file.FileHead.{FileHead}
use Rattle.xt_messages.specs.declared.file.Update.{Update}
use Rattle.xt_messages.specs.declared.event.Mark.TheVariants as mark
use Rattle.xt_protocol.specs.declared.turned.Turned.{Turned}
use Rattle.xt_protocol.specs.declared.states.Place.{Place}
use Rattle.xt_protocol.specs.declared.states.Peer.{Peer}
use Rattle.xt_protocol.specs.declared.states.PeerState.TheVariants as peer
use Rattle.xt_protocol.specs.declared.states.Progress.{Progress}
use Rattle.xt_protocol.specs.declared.states.Progress.TheVariants as progress
use Rattle.xt_protocol.specs.declared.states.Tenure.{Tenure}
use Rattle.xt_protocol.specs.Turns.{answers, joined, shows}
use Rattle.xt_protocol.specs.Primaries.{Led, carries, with_node, with_peer}
use Rattle.xt_protocol.specs.PrimaryRows.{goes_on, unmoved}

-- whether the head is installed
abbrev pub is_installing : Progress → Bool
is_installing (progress.Installing chosen acked) = true
is_installing _ = false

-- who has acknowledged the head that is installed, or the update that is issued
abbrev pub acked_in : Progress → List NodeId
acked_in (progress.Installing chosen acked) = acked
acked_in (progress.Active committed (Some issued)) = issued.acked
acked_in _ = []

-- this node is among them
abbrev pub with_ack : Progress → NodeId → Progress
with_ack (progress.Installing chosen acked) node = progress.Installing chosen (with_node acked node)
with_ack (progress.Active committed (Some issued)) node = progress.Active committed (Some (record issued { acked = with_node issued.acked node }))
with_ack p node = p

-- a commit: its mark, and the answer to its client
abbrev pub report_commit : Place → Update → Turned
report_commit place update =
    joined (shows (mark.Commit place.file.number update.stamp.count update.id))
    (answers place.node place.file update.id update.stamp.count update.mark [])

-- what is reported when a majority has acknowledged: that the issued update is committed, or that the primary is active
abbrev pub report_majority : Place → FileHead → Progress → Turned
report_majority place own (progress.Active committed (Some issued)) = report_commit place issued.update
report_majority place own _ = shows (mark.Active place.file.number own.stamp.count own.last)

-- a tenure whose head or issued update a node has acknowledged
abbrev pub acked_by : Place → FileHead → ℕ → Tenure → NodeId → Led
acked_by place own learnt t from =
    if carries place t.peers (with_node (acked_in t.progress) from)
    then goes_on learnt (record t { progress = progress.Active own None }) (report_majority place own t.progress)
    else unmoved learnt (record t { progress = with_ack t.progress from })

-- the peers after an acknowledgement, which may have made its sender current
abbrev pub peers_after : List Peer → NodeId → Bool → List Peer
peers_after peers from true = with_peer peers from peer.Current
peers_after peers from false = peers

-- a tenure after an acknowledgement, which may have made its sender current
abbrev pub current_after : Tenure → NodeId → Bool → Tenure
current_after t from newly = record t { peers = peers_after t.peers from newly }
