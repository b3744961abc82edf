-- a call ends with Ok in the step in which an Ok comes that it waits for
use Rattle.std.proofs.Common.{ℕ, ◌+◌, ◌==◌, ◌&&◌, refl, sym, subst, Bool, true, false, IsTrue, Option, Some, None, List}
use Rattle.std.specs.Prelude.{not, is_some}
use Rattle.xt_base.specs.TimeSettings.{TimeSettings}
use Rattle.xt_base.specs.declared.ids.NodeId.{NodeId}
use Rattle.xt_base.specs.declared.ids.FileId.{FileId}
use Rattle.xt_base.specs.declared.ids.SizeMark.{SizeMark}
use Rattle.xt_messages.specs.declared.file.Capability.{Capability}
use Rattle.xt_messages.specs.declared.file.Op.{Op}
use Rattle.xt_messages.specs.declared.reply.Reply.{Reply}
use Rattle.xt_messages.specs.declared.reply.Reply.TheVariants as reply
use Rattle.xt_messages.specs.declared.message.Payload.{Payload}
use Rattle.xt_messages.specs.declared.message.Payload.TheVariants as payload
use Rattle.xt_messages.specs.declared.event.Event.{Event}
use Rattle.xt_messages.specs.declared.event.Event.TheVariants as event
use Rattle.client_rows.specs.declared.RunningCall.{RunningCall}
use Rattle.client_rows.specs.declared.ClientState.{ClientState}
use Rattle.client_rows.specs.Steps.{Step}
use Rattle.client_rows.specs.Clients.{KnownFiles, step_of_client}
use Rattle.replica_client.specs.Views.{awaits}
use Rattle.client_rows.specs.declared.progress.Learnt.{Learnt}
use Rattle.client_rows.specs.declared.progress.Learnt.TheVariants as learnt
use Rattle.client_rows.specs.declared.progress.Progress.{Progress}
use Rattle.client_rows.specs.declared.requests.Request.{Request}
use Rattle.client_rows.specs.declared.requests.Request.TheVariants as request
use Rattle.client_rows.specs.declared.requests.CallResult.{CallResult}
use Rattle.client_rows.specs.declared.requests.CallResult.TheVariants as result
use Rattle.client_rows.specs.declared.requests.Stage.{Stage}
use Rattle.client_rows.specs.declared.requests.Stage.TheVariants as stage
use Rattle.client_rows.specs.declared.requests.MadeCall.{MadeCall}
use Rattle.client_rows.specs.Holding.{Held, mark_with}
use Rattle.client_rows.specs.Requests.{next_asked, bytes_shown}
use Rattle.client_rows.specs.Waiting.{asks_or_ends, reply_comes, reply_to, reply_heard}
use Rattle.client_rows.specs.Rows.{WholeClient, clock_of, result_of, result_in, stage_after, replicas_step, goes_on, goes_on_with}
use Rattle.xt_protocol.specs.declared.turned.Turned.{Turned}
use Rattle.client_core.specs.Views.{ClientView, Does}
use Rattle.client_core.specs.Answered.{waits_last, ok_ends, ok_ends_made, says_ok, is_answered_by, is_answered, is_done}

-- what a step leaves is a call that ended with Ok
abbrev ends_ok : Step WholeClient → Type 0
ends_ok step = IsTrue (is_done (result_in step.state.made))

both : (a b : Bool) → IsTrue (a && b) → IsTrue a × IsTrue b
both true b h = (refl, h)
both false b h = absurd (cc)

-- Beside the replicated files: how far a call is once it has gone on so.

abbrev goes_ok : ℕ → Stage → Progress → Type 0
goes_ok deadline s comes = IsTrue (is_done (result_of (stage_after deadline s comes.next)))

-- nobody is asked next
ends_here : (deadline : ℕ) (s : Stage) (learns : Learnt) (how : CallResult) (next : Option NodeId) → IsTrue (is_done (Some how))
    → IsTrue (not (is_some next)) → goes_ok deadline s (record { learnt = learns; next = asks_or_ends next how })
ends_here deadline s learns how None done last = done
ends_here deadline s learns how (Some node) done last = absurd (cc)

striped_ends : (deadline : ℕ) (s : Stage) (held : Held) (target from : NodeId) (count : ℕ) (size : SizeMark) (bytes : List ℕ)
    (capability : Capability) (asked : Op) → IsTrue (waits_last target from (request.Striped capability asked))
    → goes_ok deadline s (reply_comes held capability asked target from (reply.Ok count size bytes))
striped_ends deadline s held target from count size bytes capability asked waits =
    let next : Option NodeId = next_asked capability.location.members asked target in
    let parts = both (from.0 == target.0) (not (is_some next)) waits in
    let all = mark_with held capability.file.number size in
    rw parts.0
    (ends_here deadline s (learnt.Mark capability.file.number size)
    (result.Ok count all (bytes_shown all.size capability.location.stripe asked bytes)) next refl parts.1)

request_ends : (deadline : ℕ) (s : Stage) (held : Held) (target from : NodeId) (count : ℕ) (size : SizeMark) (bytes : List ℕ)
    (asked : Request) → IsTrue (waits_last target from asked)
    → goes_ok deadline s (reply_to held asked target from (reply.Ok count size bytes))
request_ends deadline s held target from count size bytes (request.Striped capability asked) waits =
    striped_ends deadline s held target from count size bytes capability asked waits
request_ends deadline s held target from count size bytes (request.Replicated capability asked) waits = absurd (cc)
request_ends deadline s held target from count size bytes (request.Meta user group asked) waits = absurd (cc)
request_ends deadline s held target from count size bytes (request.Registry asked) waits = absurd (cc)

waiting_ends : (deadline : ℕ) (held : Held) (made : MadeCall) (target from : NodeId) (number count : ℕ) (size : SizeMark) (bytes : List ℕ)
    → IsTrue (number == made.number && waits_last target from made.request)
    → goes_ok deadline made.stage (reply_heard held made target from number (reply.Ok count size bytes))
waiting_ends deadline held made target from number count size bytes waits =
    let parts = both (number == made.number) (waits_last target from made.request) waits in
    rw parts.0 (request_ends deadline made.stage held target from count size bytes made.request parts.1)

-- on a replicated file
replicas_end : (node : NodeId) (times : TimeSettings) (last next : ℕ) (running : Option RunningCall) (files : KnownFiles) (held : Held)
    (made : MadeCall) (reading : ℕ) (from to : NodeId) (list : ℕ) (file : FileId) (number count : ℕ) (size : SizeMark) (bytes : List ℕ)
    → IsTrue (awaits running from number)
    → ends_ok
    (replicas_step node times
    (record { replicas = record { last = last; next = next; running = running; files = files }; held = held; made = Some made }) reading
    (event.Deliver (record { from = from; to = to; list = list; payload = payload.Reply number file (reply.Ok count size bytes) })))
unfolding step_of_client
replicas_end node times last next None files held made reading from to list file number count size bytes waits = absurd (cc)
replicas_end node times last next (Some call) files held made reading from to list file number count size bytes waits = rw waits refl

-- the last call, however far it is
stage_ends : (node : NodeId) (times : TimeSettings) (replicas : ClientState) (held : Held) (made : MadeCall) (reading : ℕ) (from to : NodeId)
    (list : ℕ) (file : FileId) (number count : ℕ) (size : SizeMark) (bytes : List ℕ) (s : Stage)
    → IsTrue (ok_ends (record { replicas = replicas; held = held; made = Some made }) made from number s)
    → ends_ok
    (goes_on node times (record { replicas = replicas; held = held; made = Some made }) reading
    (event.Deliver (record { from = from; to = to; list = list; payload = payload.Reply number file (reply.Ok count size bytes) })) made s)
stage_ends node times replicas held made reading from to list file number count size bytes stage.OnReplicas waits =
    replicas_end node times replicas.last replicas.next replicas.running replicas.files held made reading from to list file number count
    size bytes waits
stage_ends node times replicas held made reading from to list file number count size bytes (stage.Waiting target deadline) waits =
    let now : ℕ = clock_of (record { replicas = replicas; held = held; made = Some made }) reading in
    waiting_ends (now + times.lease) held made target from number count size bytes waits
stage_ends node times replicas held made reading from to list file number count size bytes (stage.Ended how) waits = absurd (cc)

made_ends : (node : NodeId) (times : TimeSettings) (replicas : ClientState) (held : Held) (made : Option MadeCall) (reading : ℕ)
    (from to : NodeId) (list : ℕ) (file : FileId) (number count : ℕ) (size : SizeMark) (bytes : List ℕ)
    → IsTrue (ok_ends_made (record { replicas = replicas; held = held; made = made }) made from number)
    → ends_ok
    (goes_on_with node times (record { replicas = replicas; held = held; made = made }) reading
    (event.Deliver (record { from = from; to = to; list = list; payload = payload.Reply number file (reply.Ok count size bytes) })) made)
made_ends node times replicas held None reading from to list file number count size bytes waits = absurd (cc)
made_ends node times replicas held (Some made) reading from to list file number count size bytes waits =
    stage_ends node times replicas held made reading from to list file number count size bytes made.stage waits

reply_ends : (node : NodeId) (times : TimeSettings) (client : WholeClient) (reading : ℕ) (from to : NodeId) (list : ℕ) (file : FileId)
    (number : ℕ) (content : Reply) → IsTrue (says_ok content && ok_ends_made client client.made from number)
    → ends_ok
    (goes_on_with node times client reading
    (event.Deliver (record { from = from; to = to; list = list; payload = payload.Reply number file content })) client.made)
reply_ends node times client reading from to list file number (reply.Ok count size bytes) waits =
    made_ends node times client.replicas client.held client.made reading from to list file number count size bytes waits
reply_ends node times client reading from to list file number _ waits = absurd (cc)

message_ends : (node : NodeId) (times : TimeSettings) (client : WholeClient) (reading : ℕ) (from to : NodeId) (list : ℕ) (content : Payload)
    → IsTrue (is_answered_by client from content)
    → ends_ok
    (goes_on_with node times client reading (event.Deliver (record { from = from; to = to; list = list; payload = content })) client.made)
message_ends node times client reading from to list (payload.Reply number file content) waits =
    reply_ends node times client reading from to list file number content waits
message_ends node times client reading from to list _ waits = absurd (cc)

-- An Ok that the call waits for ends it so.
pub answered_ends : (node : NodeId) (times : TimeSettings) (client : WholeClient) (reading : ℕ) (happens : Event)
    → IsTrue (is_answered client happens) → ends_ok (goes_on_with node times client reading happens client.made)
answered_ends node times client reading (event.Deliver msg) waits =
    message_ends node times client reading msg.from msg.to msg.list msg.payload waits
answered_ends node times client reading event.Wake waits = absurd (cc)
answered_ends node times client reading (event.Call c) waits = absurd (cc)

pub answered_by : (old new : ClientView) (reading : ℕ) (happens : Event) (turned : Turned)
    → Does (goes_on_with old.node old.times old.state reading happens old.state.made) old new turned
    → IsTrue (is_answered old.state happens) → IsTrue (is_done (result_in new.state.made))
answered_by old new reading happens turned did waits =
    let Done : ClientView → Type 0 = λ client. IsTrue (is_done (result_in client.state.made)) in
    subst Done (sym did.0)
    (answered_ends old.node old.times old.state reading happens waits)
