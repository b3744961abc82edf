-- a step of the world, as events of a file's world
use Rattle.std.specs.Prelude.{◌≡◌, ℕ, Some, List, ◌∷◌, ◌++◌}
use Rattle.xt_base.specs.declared.ids.FileId.{FileId}
use Rattle.xt_messages.specs.declared.file.Op.{Op}
use Rattle.xt_base.specs.declared.ids.Epoch.{Epoch}
use Rattle.xt_base.specs.declared.ids.Stamp.{Stamp}
use Rattle.xt_messages.specs.declared.message.Payload.TheVariants as payload
use Rattle.world_safety.specs.Asks.{IsOutside}
use Rattle.xt_messages.specs.declared.event.Event.TheVariants as event
use Rattle.xt_messages.specs.declared.message.Msg.{Msg}
use Rattle.xt_protocol.specs.FileStates.{FileStep}
use Rattle.xt_protocol.specs.OsdSteps.{OsdState, file_concerned}
use Rattle.lease_safety.specs.State.{Has}
use Rattle.file_runs.specs.FileRuns.{FileWorld, Event, message, wake, step_on, sent_by, Comes, OwnComes, MayAll, after_all}
use Rattle.time_line.specs.Clauses.{AreApart}
use Rattle.world_spec.specs.World.{World, Node, Running}
use Rattle.world_runs.specs.Worlds.{IsInOrder}
use Rattle.world_safety.specs.Seen.{file_seen, Sees}
use Rattle.world_safety.specs.Events.{RunsAs, IsAwake, site_at, stepped}
use Rattle.world_safety.specs.May.{LeadersHold}

-- These events can happen in the file's world, and lead to what the world shows of the file after the step: who leads holds, and what
-- the file's step sends and marks is added.
pub record IsRun (stripe : ℕ) (ops : ℕ × ℕ → Op) (members : List ℕ) (file : FileId) (after : World) (n : ℕ) (v : FileWorld) (step : FileStep) : Type 0 where
  pub events : List Event
  pub may : MayAll stripe ops members v events
  pub sees : Sees file after (after_all v events)
  pub leaders : LeadersHold file after (after_all v events)
  pub sent : (after_all v events).sent ≡ sent_by n step.turned.outs ++ v.sent
  pub tales : (after_all v events).tales ≡ record { node = n; marks = step.turned.marks } ∷ v.tales

-- A message to an OSD past its silence, whichever of its messages go out: so it is for the file that it concerns, where the worlds before
-- and after are in order, and at no moment do two nodes hold the file by the trace.
abbrev pub MessagesRun : Type 0
MessagesRun =
    (stripe : ℕ) (ops : ℕ × ℕ → Op) (members : List ℕ) (file : FileId) (w : World) (own own_after outs : List Msg) (node : Node) (r : Running) (s : OsdState) (msg : Msg) (v : FileWorld)
    → IsInOrder w own → IsInOrder (stepped w node r s (event.Deliver msg) outs) own_after
    → AreApart file.number w.entries → AreApart file.number (stepped w node r s (event.Deliver msg) outs).entries
    → RunsAs w node r s → IsAwake r s → file_concerned msg.payload ≡ Some file → Comes stripe ops members v (message msg.from msg.payload)
    → OwnComes node.id.0 (file_seen file s) (message msg.from msg.payload)
    → Sees file w v → LeadersHold file w v
    → IsRun stripe ops members file (stepped w node r s (event.Deliver msg) outs) node.id.0 v
    (step_on (site_at node r s) (file_seen file s) (message msg.from msg.payload))

-- And a Wake of an OSD past its silence, for each file that it has met.
abbrev pub WakesRun : Type 0
WakesRun =
    (stripe : ℕ) (ops : ℕ × ℕ → Op) (members : List ℕ) (file : FileId) (w : World) (own own_after outs : List Msg) (node : Node) (r : Running) (s : OsdState) (v : FileWorld)
    → IsInOrder w own → IsInOrder (stepped w node r s event.Wake outs) own_after
    → AreApart file.number w.entries → AreApart file.number (stepped w node r s event.Wake outs).entries
    → RunsAs w node r s → IsAwake r s → Has (file_seen file s) s.files → Sees file w v → LeadersHold file w v
    → IsRun stripe ops members file (stepped w node r s event.Wake outs) node.id.0 v (step_on (site_at node r s) (file_seen file s) wake)

-- So is an ask for what leaves the object: the file's step is that of a Fetch.
abbrev pub OutsideRuns : Type 0
OutsideRuns =
    (stripe : ℕ) (ops : ℕ × ℕ → Op) (members : List ℕ) (file : FileId) (w : World) (own own_after outs : List Msg) (node : Node) (r : Running) (s : OsdState) (msg : Msg) (v : FileWorld)
    (epoch : Epoch) (object : ℕ) (version : Stamp) → IsInOrder w own → IsInOrder (stepped w node r s (event.Deliver msg) outs) own_after
    → AreApart file.number w.entries → AreApart file.number (stepped w node r s (event.Deliver msg) outs).entries
    → RunsAs w node r s → IsAwake r s → file_concerned msg.payload ≡ Some file → IsOutside msg.payload → Sees file w v → LeadersHold file w v
    → IsRun stripe ops members file (stepped w node r s (event.Deliver msg) outs) node.id.0 v
    (step_on (site_at node r s) (file_seen file s) (message msg.from (payload.Fetch file epoch object version)))
