-- which messages are the replica's and which the lease's, and what the replica makes of one
use Rattle.std.specs.Prelude.{Bool, true, false, List}
use Rattle.xt_base.specs.declared.ids.FileId.{FileId}
use Rattle.xt_messages.specs.declared.file.FileHead.{FileHead}
use Rattle.xt_messages.specs.declared.file.ObjectVersion.{ObjectVersion}
use Rattle.xt_messages.specs.declared.message.Payload.{Payload}
use Rattle.xt_messages.specs.declared.message.Payload.TheVariants as payload
use Rattle.xt_protocol.specs.declared.states.Acted.{Acted}
use Rattle.xt_protocol.specs.ReplicaRows.{gathered, staged, headed, updated, unanswered}

abbrev pub is_for_replica : Payload → Bool
is_for_replica (payload.Gather file epoch) = true
is_for_replica (payload.Stage file epoch object version bytes) = true
is_for_replica (payload.Head file epoch head) = true
is_for_replica (payload.Update file update) = true
is_for_replica _ = false

abbrev pub is_for_lease : Payload → Bool
is_for_lease (payload.Read file ballot) = true
is_for_lease (payload.Write file ballot boot lease) = true
is_for_lease (payload.Promise file ballot boot report) = true
is_for_lease (payload.Accepted file ballot boot) = true
is_for_lease (payload.Outrun file ballot seen) = true
is_for_lease _ = false

-- what a replica of this file, with this head and these held bodies, makes of a message
abbrev pub acted_on : FileId → FileHead → List ObjectVersion → Payload → Acted
acted_on file own held (payload.Gather f epoch) = gathered file own epoch
acted_on file own held (payload.Stage f epoch object version bytes) = staged file own held epoch object version bytes
acted_on file own held (payload.Head f epoch head) = headed file own held epoch head
acted_on file own held (payload.Update f update) = updated file own update
acted_on file own held _ = unanswered
