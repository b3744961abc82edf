-- how the step of a running node ends
use Rattle.std.specs.Prelude.{ℕ, ◌≡◌, ◌++◌, ◌∷◌, [], List, Option, Some, None, Result, Ok, Err}
use Rattle.std.specs.Option.{IfSome}
use Rattle.disk_model.specs.declared.plan.Stop.{Stop}
use Rattle.time_line.specs.declared.entry.Halt.{Halt}
use Rattle.time_line.specs.declared.entry.Halt.TheVariants as halt
use Rattle.xt_messages.specs.declared.event.Mark.{Mark}
use Rattle.xt_messages.specs.declared.message.Msg.{Msg}
use Rattle.xt_messages.specs.declared.record.Record.{Record}
use Rattle.xt_messages.specs.declared.status.Limited.{Limited}
use Rattle.xt_protocol.specs.declared.turned.Turned.{Turned}
use Rattle.world_spec.specs.World.{World, Node, Running, with_node}
use Rattle.world_spec.specs.NodeSteps.{Room, Cause, came_to, has_no_room, Doing, numbered, one_more, overflow_of, within_limits, forgets_if, after_turn, to_itself, loses_own, cut_in_sending, stopped_in_append}
use Rattle.world_limits.specs.Fits.{FitsTurned, MayForget}
use Rattle.world_tables.specs.Limits.{limit_passed}
use Rattle.world_hull.specs.declared.errors.WorldErr.{WorldErr}
use Rattle.world_step.specs.declared.ending.Ending.{Ending}
use Rattle.world_step.specs.declared.ending.Ending.TheVariants as ending
use Rattle.world_hull.specs.declared.errors.WorldErr.TheVariants as error
use Rattle.world_hull.specs.declared.hull.Kept.{Kept}
use Rattle.world_hull.specs.declared.hull.Kept.TheVariants as kept
use Rattle.world_nodes.specs.Nodes.{IsAt, after_put}
use Rattle.world_step.specs.Steps.{Working, Tells, IsUntold, limit_of}

-- By the plans and by what a step gives: a record is appended where a crash is planned, or messages are sent where a cut is.
abbrev pub ending_of : Option Stop → Option ℕ → Option Record → List Msg → Ending
ending_of (Some stop) cut (Some rec) outs = ending.InAppend stop
ending_of crash (Some count) rec (out ∷ outs) = ending.InSending count
ending_of crash cut rec outs = ending.Whole

-- what a step gives
abbrev pub given_by : Option Record → List Msg → List Mark → Turned
given_by rec outs marks = record { rec = rec; outs = outs; marks = marks }

-- what a step gave fits the node that took it, and that node may forget then
abbrev pub FitsGiven : Node → Turned → Type 0
FitsGiven node turned =
    FitsTurned node.kept turned × IfSome node.up (λ running. MayForget (one_more node.kept turned.rec) running.core)

-- a world in which a node's record is put and its messages are numbered
abbrev pub given : World → Node → Option Record → List Msg → World
given w node rec outs =
    record w {
      nodes = with_node w.nodes (after_put rec node);
      sent = w.sent ++ numbered w.nodes node.id outs;
    }

-- why the record can't be kept, or the messages can't be sent; room comes first
abbrev pub hindrance : Option Limited → Option Cause
hindrance None = None
hindrance (Some what) = Some (came_to what)

abbrev pub cause_against : Room → World → Node → Option Record → List Msg → Option Cause
cause_against room w node rec outs =
    elim (overflow_of room node.past rec) [
      | Some overflow ↦ Some (has_no_room overflow)
      | None ↦ hindrance (limit_passed (given w node rec outs).sent)
    ]

-- The record is kept and the messages are numbered within the limits; or not, and nothing is reported.
abbrev pub IsGiven : {T : Type 0} → Room → Working → Node → Option Record → List Msg → Working → Result T WorldErr → Type 0
IsGiven room old node rec outs new (Ok value) =
    (cause_against room old.doing.world node rec outs ≡ None)
    × (new ≡ record old { doing = record old.doing { world = given old.doing.world node rec outs } })
IsGiven room old node rec outs new (Err e) = Tells (cause_against room old.doing.world node rec outs) e × IsUntold old new

-- ---- endings, each after room for the record

-- The record of a step must have room; then what comes of the step must be within the limits; then a node that still runs may forget.
abbrev pub ended : Room → Node → Option Record → Doing → Result Doing Cause
ended room node rec d =
    elim (overflow_of room node.past rec) [
      | Some overflow ↦ Err (has_no_room overflow)
      | None ↦ forgets_if room node.id rec (within_limits d)
    ]

-- with all that it gives
abbrev pub ended_whole : Room → Doing → Node → Running → Turned → Result Doing Cause
ended_whole room d node running turned =
    ended room node turned.rec
    (record d { world = after_turn d.world node running turned; own = d.own ++ to_itself node.id turned.outs })

-- in its sending, after so many messages
abbrev pub ended_sending : Room → Doing → Node → Running → ℕ → Turned → Result Doing Cause
ended_sending room d node running count turned =
    ended room node turned.rec (loses_own d (cut_in_sending d.world node running count turned))

-- in the append of its record
abbrev pub ended_in_append : Room → Doing → Node → Running → Stop → Record → Result Doing Cause
ended_in_append room d node running stop rec =
    ended room node (Some rec) (loses_own d (stopped_in_append d.world node running stop rec))

-- how a node stopped whose append ended so
abbrev pub halt_of : Kept → Halt
halt_of kept.Done = halt.Kept
halt_of kept.StoppedKept = halt.Kept
halt_of kept.StoppedLost = halt.Lost

-- a node stopped, and its messages to itself are lost
abbrev pub Halts : Working → ℕ → Working → Type 0
Halts old place new =
    (node : Node) → IsAt old.doing.world.nodes place node
    → new
    ≡ record old {
      doing = record old.doing {
        world = record old.doing.world { nodes = with_node old.doing.world.nodes (record node { up = None }) };
        own = [];
      };
    }

-- the limit that was passed is reported
abbrev pub IsWithin : {T : Type 0} → Option Limited → Result T WorldErr → Type 0
IsWithin passed (Ok value) = passed ≡ None
IsWithin passed (Err e) = IfSome passed (λ what. e ≡ error.Limit what (limit_of what)) × (passed ≡ None → ⊥)
