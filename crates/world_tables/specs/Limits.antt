-- what the messages are asked for: one of them, and the limit that they pass
use Rattle.std.specs.Prelude.{ℕ, Bool, ◌≡◌, ◌-◌, nat_lt, if◌then◌else◌, Option, Some, None, Result, Ok, Err, List, length, slice_get}
use Rattle.xt_messages.specs.declared.message.Msg.{Msg}
use Rattle.xt_messages.specs.declared.status.Limited.{Limited}
use Rattle.xt_messages.specs.declared.status.Limited.TheVariants as limited
use Rattle.world_spec.specs.declared.TheConstants.{MESSAGES, MESSAGE_BYTES}
use Rattle.world_spec.specs.declared.Sent.{Sent}
use Rattle.world_spec.specs.NodeSteps.{Cause, came_to, Doing, frame_bytes}

-- this message was sent under this number
abbrev pub IsSentAs : List Sent → ℕ → Msg → Type 0
IsSentAs sent number message = (pending : Bool) × (slice_get sent (number - 1) ≡ Some (record { message = message; pending = pending }))

-- the limit that the messages pass; their number is tested before their bytes
abbrev pub limit_passed : List Sent → Option Limited
limit_passed sent =
    if nat_lt MESSAGES (length sent) then Some limited.Messages
    else if nat_lt MESSAGE_BYTES (frame_bytes sent) then Some limited.Bytes
    else None

-- a step that passes no limit goes on
abbrev pub within : Doing → Option Limited → Result Doing Cause
within d None = Ok d
within d (Some what) = Err (came_to what)
