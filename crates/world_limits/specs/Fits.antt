-- what the records, the messages, the clocks and the plans of a world keep to
use Rattle.std.specs.Prelude.{ℕ, ◌≡◌, ◌<◌, ◌≤◌, ◌^◌, Option, Some, None, List, [], ◌∷◌, ◌++◌, ◌-◌, slice_get}
use Rattle.std.specs.Option.{IfSome}
use Rattle.std.specs.List.{AllByRecursion}
use Rattle.disk_model.specs.declared.plan.Stop.{Stop}
use Rattle.xt_messages.specs.Limits.{FitsMessage, FitsEvent, FitsRecord}
use Rattle.xt_base.specs.declared.ids.NodeId.{NodeId}
use Rattle.xt_messages.specs.declared.message.Msg.{Msg}
use Rattle.xt_messages.specs.declared.event.Call.{Call}
use Rattle.xt_messages.specs.declared.event.Event.{Event}
use Rattle.xt_messages.specs.declared.event.Event.TheVariants as event
use Rattle.xt_messages.specs.declared.record.Record.{Record}
use Rattle.xt_protocol.specs.declared.turned.Turned.{Turned}
use Rattle.xt_protocol.specs.Folds.{nothing_kept, fold_of, IsInPlace, AreInPlace}
use Rattle.xt_protocol.specs.Forgetting.{keep_of, rewritten}
use Rattle.time_line.specs.declared.line.Line.{Line}
use Rattle.world_spec.specs.declared.Sent.{Sent}
use Rattle.client_rows.specs.Steps.{Step}
use Rattle.world_spec.specs.World.{World, Node, Running, Core, osd, client, mrc, dir, node_in}
use Rattle.client_rows.specs.Rows.{WholeClient, called, called_again}
use Rattle.world_spec.specs.Rules.{refusal}
use Rattle.client_rows.specs.Called.{called_file}
use Rattle.world_spec.specs.NodeSteps.{Room, one_more, core_step, client_steps}
use Rattle.world_spec.specs.Lines.{Next, finished, opens, goes_on, ends, begins, steps, ready_for}
use Rattle.time_line.specs.Bounds.{AreLines, FitsCall}
use Rattle.world_spec.specs.Runs.{run_of}
use Rattle.lease_safety.specs.State.{Has}
use Rattle.world_runs.specs.View.{messages}

-- ---- nodes

-- each record of a node is within its limits, and in its place after those before it
pub record FitsKept (kept : List Record) : Type 0 where
  pub limits : AllByRecursion FitsRecord kept
  pub places : AreInPlace nothing_kept kept

-- an append has four device calls
abbrev pub FitsPlan : Option Stop → Type 0
FitsPlan None = Unit {0}
FitsPlan (Some stop) = (1 ≤ stop.call) × (stop.call ≤ 4)

pub record FitsRunning (running : Running) : Type 0 where
  pub clock : running.clock < 2 ^ 62
  pub plan : FitsPlan running.crash

pub record FitsNode (node : Node) : Type 0 where
  pub records : FitsKept node.kept
  pub running : IfSome node.up FitsRunning

-- ---- what a step gives

-- a record may be kept after these
abbrev pub FitsNext : List Record → Option Record → Type 0
FitsNext kept rec = IfSome rec (λ r. FitsRecord r × IsInPlace (fold_of kept) r)

-- what the step of a node that keeps these records gives can be kept and sent
pub record FitsTurned (kept : List Record) (turned : Turned) : Type 0 where
  pub record_next : FitsNext kept turned.rec
  pub messages : AllByRecursion FitsMessage turned.outs

-- the records of an OSD may be rewritten with the bodies that it needs: the rewritten ones are kept as these are
abbrev pub MayForget : List Record → Core → Type 0
MayForget kept (osd state) = FitsKept (rewritten (keep_of state) kept)
MayForget kept (client state) = Unit {0}
MayForget kept (mrc state) = Unit {0}
MayForget kept (dir state) = Unit {0}

-- what the step of a node that keeps these records gives can be kept and sent; and then it may forget
pub record FitsStep (kept : List Record) (step : Step Core) : Type 0 where
  pub turned : FitsTurned kept step.turned
  pub forgetting : MayForget (one_more kept step.turned.rec) step.state

-- an event comes to a node: a message that was sent or is the node's to itself, or time that has passed
abbrev pub Comes : World → List Msg → NodeId → Event → Type 0
Comes w own id (event.Deliver msg) = (msg.to ≡ id) × Has msg (own ++ messages w)
Comes w own id event.Wake = Unit {0}
Comes w own id (event.Call c) = ⊥

-- the step of a client's call; of a declared file it is given the capability first
abbrev pub call_of : World → Node → Running → WholeClient → Call → Step Core
call_of w node running c k = client_steps (called node.id w.times (ready_for w.files c k (called_file k)) running.clock k)

-- the step of a client's last call, made again
abbrev pub again_of : World → Node → Running → WholeClient → Step Core
again_of w node running c = client_steps (called_again node.id w.times c running.clock)

-- an event within its limits comes to the node of this id, and what its step gives fits
pub record FitsComing (w : World) (id : NodeId) (happens : Event) : Type 0 where
  pub message : FitsEvent happens
  pub step : (node : Node) (running : Running) → node_in w.nodes id.0 ≡ Some node → node.up ≡ Some running
      → FitsRunning running × FitsStep node.kept (core_step w.times node running.core running.clock happens)

-- ---- a world, with the messages of a node to itself that it hasn't handled

pub record FitsWorld (w : World) (own : List Msg) : Type 0 where
  pub nodes : (node : Node) → node_in w.nodes node.id.0 ≡ Some node → FitsNode node
  pub sent : AllByRecursion (λ (s : Sent). FitsMessage s.message) w.sent
  pub queued : AllByRecursion FitsMessage own
  -- every step that can follow gives what can be kept and sent, and an OSD may forget then
  pub handled : (node : Node) (running : Running) (happens : Event) → node_in w.nodes node.id.0 ≡ Some node → node.up ≡ Some running
      → Comes w own node.id happens → FitsStep node.kept (core_step w.times node running.core running.clock happens)
  -- and so does a client's call, and its last call made again
  pub called : (node : Node) (running : Running) (c : WholeClient) (k : Call) → node_in w.nodes node.id.0 ≡ Some node → node.up ≡ Some running
      → running.core ≡ client c → FitsCall k → FitsTurned node.kept (call_of w node running c k).turned
  pub called_again : (node : Node) (running : Running) (c : WholeClient) → node_in w.nodes node.id.0 ≡ Some node → node.up ≡ Some running
      → running.core ≡ client c → FitsTurned node.kept (again_of w node running c).turned

-- a client's call, and what its step gives can be kept and sent
abbrev pub FitsCalling : World → NodeId → Call → Type 0
FitsCalling w id k =
    (node : Node) (running : Running) → node_in w.nodes id.0 ≡ Some node → node.up ≡ Some running
    → FitsRunning running × ((c : WholeClient) → running.core ≡ client c → FitsTurned node.kept (call_of w node running c k).turned)

-- a client's last call is made again, and what its step gives can be kept and sent
abbrev pub FitsCallingAgain : World → NodeId → Type 0
FitsCallingAgain w id =
    (node : Node) (running : Running) → node_in w.nodes id.0 ≡ Some node → node.up ≡ Some running
    → FitsRunning running × ((c : WholeClient) → running.core ≡ client c → FitsTurned node.kept (again_of w node running c).turned)

-- the message of this number is delivered
abbrev pub FitsDelivery : World → ℕ → Type 0
FitsDelivery w number = (s : Sent) → slice_get w.sent (number - 1) ≡ Some s → FitsComing w s.message.to (event.Deliver s.message)

-- where a line is
abbrev pub FitsAt : Next → Type 0
FitsAt (finished w) = Unit {0}
FitsAt (opens l w) = FitsWorld w []
FitsAt (goes_on d) = FitsWorld d.world d.own
FitsAt (ends cause w) = Unit {0}

-- What is to be shown of the protocol: in every run, each step of the next line is made in a world that fits.
abbrev pub DoStepsFit : Room → Type 0
DoStepsFit room =
    (lines : List Line) (l : Line) (k : ℕ) → AreLines (lines ++ l ∷ []) → refusal (run_of room lines) l ≡ None
    → FitsAt (steps k room (begins (run_of room lines) l))
