-- an Ok that ends the last call
use Rattle.std.specs.Prelude.{ℕ, Bool, true, false, ◌==◌, ◌&&◌, not, Option, Some, None, is_some}
use Rattle.xt_base.specs.declared.ids.NodeId.{NodeId}
use Rattle.xt_messages.specs.declared.reply.Reply.{Reply}
use Rattle.xt_messages.specs.declared.reply.Reply.TheVariants as reply
use Rattle.xt_messages.specs.declared.message.Payload.{Payload}
use Rattle.xt_messages.specs.declared.message.Payload.TheVariants as payload
use Rattle.xt_messages.specs.declared.event.Event.{Event}
use Rattle.xt_messages.specs.declared.event.Event.TheVariants as event
use Rattle.replica_client.specs.Views.{awaits}
use Rattle.client_rows.specs.declared.requests.Request.{Request}
use Rattle.client_rows.specs.declared.requests.Request.TheVariants as request
use Rattle.client_rows.specs.declared.requests.CallResult.{CallResult}
use Rattle.client_rows.specs.declared.requests.CallResult.TheVariants as result
use Rattle.client_rows.specs.declared.requests.Stage.{Stage}
use Rattle.client_rows.specs.declared.requests.Stage.TheVariants as stage
use Rattle.client_rows.specs.declared.requests.MadeCall.{MadeCall}
use Rattle.client_rows.specs.Requests.{next_asked}
use Rattle.client_rows.specs.Rows.{WholeClient}

-- whether an operation on a striped file waits for this node alone: a truncation does once the last member is its target
abbrev pub waits_last : NodeId → NodeId → Request → Bool
waits_last target from (request.Striped capability asked) =
    from.0 == target.0 && not (is_some (next_asked capability.location.members asked target))
waits_last target from _ = false

-- whether an Ok of this node, of this number, ends a call that is so far: on a replicated file, any member that it has asked
abbrev pub ok_ends : WholeClient → MadeCall → NodeId → ℕ → Stage → Bool
ok_ends client made from number stage.OnReplicas = awaits client.replicas.running from number
ok_ends client made from number (stage.Waiting target deadline) = number == made.number && waits_last target from made.request
ok_ends client made from number (stage.Ended how) = false

abbrev pub ok_ends_made : WholeClient → Option MadeCall → NodeId → ℕ → Bool
ok_ends_made client None from number = false
ok_ends_made client (Some made) from number = ok_ends client made from number made.stage

abbrev pub says_ok : Reply → Bool
says_ok (reply.Ok count size bytes) = true
says_ok _ = false

abbrev pub is_answered_by : WholeClient → NodeId → Payload → Bool
is_answered_by client from (payload.Reply number file content) = says_ok content && ok_ends_made client client.made from number
is_answered_by client from _ = false

-- whether an event is an Ok that ends the call: of a member that was asked, and of a truncation of a striped file, of the last one
abbrev pub is_answered : WholeClient → Event → Bool
is_answered client (event.Deliver msg) = is_answered_by client msg.from msg.payload
is_answered client _ = false

-- whether a call ended with Ok
abbrev pub is_done : Option CallResult → Bool
is_done (Some (result.Ok count mark bytes)) = true
is_done _ = false
