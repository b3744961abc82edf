-- The limits of a step are those of the messages after it.
use Rattle.std.proofs.Common.{◌≡◌, Bool, true, false, cond, Some, None, Ok, Err, refl}
use Rattle.std.specs.Prelude.{nat_lt, length}
use Rattle.xt_messages.specs.declared.status.Limited.TheVariants as limited
use Rattle.world_spec.specs.declared.TheConstants.{MESSAGES, MESSAGE_BYTES}
use Rattle.world_spec.specs.NodeSteps.{Doing, frame_bytes, came_to, within_limits}
use Rattle.world_tables.specs.Limits.{limit_passed, within}

either_limit : (d : Doing) (many long : Bool)
    → cond many (Err (came_to limited.Messages)) (cond long (Err (came_to limited.Bytes)) (Ok d))
    ≡ within d (cond many (Some limited.Messages) (cond long (Some limited.Bytes) None))
either_limit d true long = refl
either_limit d false true = refl
either_limit d false false = refl

-- a step is within the limits exactly where its messages pass none
pub within_limits_is : (d : Doing) → within_limits d ≡ within d (limit_passed d.world.sent)
within_limits_is d = either_limit d (nat_lt MESSAGES (length d.world.sent)) (nat_lt MESSAGE_BYTES (frame_bytes d.world.sent))
