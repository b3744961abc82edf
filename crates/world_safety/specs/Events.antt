-- what the nodes of a file do where a node of the world steps, stops or starts
use Rattle.std.specs.Prelude.{◌≡◌, ◌≢◌, ◌⊎◌, false, ℕ, Some, None, List, ◌∷◌, [], ◌++◌, max, map}
use Rattle.xt_base.specs.declared.ids.FileId.{FileId}
use Rattle.xt_messages.specs.declared.event.Event.{Event}
use Rattle.xt_messages.specs.declared.event.Event.TheVariants as event
use Rattle.xt_messages.specs.declared.message.Msg.{Msg}
use Rattle.xt_messages.specs.declared.record.Record.{Record}
use Rattle.xt_protocol.specs.FileIds.{is_file}
use Rattle.xt_protocol.specs.LeaseRows.{awake_at}
use Rattle.time_line.specs.declared.entry.Halt.{Halt}
use Rattle.xt_protocol.specs.FileStates.{FileState, Site}
use Rattle.xt_protocol.specs.OsdSteps.{OsdState, OsdStep, step_of_osd, file_concerned}
use Rattle.lease_runs.specs.OsdView.{site_of}
use Rattle.file_runs.specs.FileRuns.{FileWorld, Happening, message, wake, goes_on, stops_kept, stops_lost, acts, starts, after}
use Rattle.world_spec.specs.declared.Role.TheVariants as role
use Rattle.world_spec.specs.World.{World, Node, Running, osd, node_in, with_node, puts}
use Rattle.world_spec.specs.NodeSteps.{outside_of, after_turn, halted}
use Rattle.world_spec.specs.Lines.{starts_as, next_boot, ticked}
use Rattle.world_runs.specs.View.{awake_as}
use Rattle.world_safety.specs.Seen.{file_seen, core_state, node_seen, Sees}

-- a running OSD of a world
pub record RunsAs (w : World) (node : Node) (r : Running) (s : OsdState) : Type 0 where
  pub found : node_in w.nodes node.id.0 ≡ Some node
  pub up : node.up ≡ Some r
  pub core : r.core ≡ osd s

-- it is past its silence
abbrev pub IsAwake : Running → OsdState → Type 0
IsAwake r s = awake_at s.started (max r.clock s.last) ≡ Some (awake_as s.started)

-- where it takes its step
abbrev pub site_at : Node → Running → OsdState → Site
site_at node r s = site_of (outside_of node.kept) (awake_as s.started) (max r.clock s.last)

abbrev pub step_at : Node → Running → OsdState → Event → OsdStep
step_at node r s happens = step_of_osd (outside_of node.kept) s r.clock happens

-- the world after its step, of whose messages these go out
abbrev pub stepped : World → Node → Running → OsdState → Event → List Msg → World
stepped w node r s happens outs =
    let step = step_at node r s happens in after_turn w node (record r { core = osd step.osd }) (record step.turned { outs = outs })

-- and where it stops in the append of the step's record, which is kept
abbrev pub stopped_with : World → Node → Running → OsdState → Event → Record → Halt → World
stopped_with w node r s happens rec how =
    halted w (record node { kept = node.kept ++ rec ∷ []; past = node.past ++ puts rec ∷ [] }) (record r { core = osd (step_at node r s happens).osd }) how

-- A message to an OSD past its silence: the file that it concerns takes its step, and no other file does. Where the OSD stops in its
-- append with the record kept, the file's step stops so, and at every other file the node stops.
pub record ShowsMessage (file : FileId) (w : World) (node : Node) (r : Running) (s : OsdState) (msg : Msg) (v : FileWorld) : Type 0 where
  pub takes : (outs : List Msg)
      → Sees file (stepped w node r s (event.Deliver msg) outs) (after v (acts node.id.0 (file_seen file s) (site_at node r s) (message msg.from msg.payload) goes_on))
  pub keeps : (rec : Record) (how : Halt) → (step_at node r s (event.Deliver msg)).turned.rec ≡ Some rec
      → Sees file (stopped_with w node r s (event.Deliver msg) rec how) (after v (acts node.id.0 (file_seen file s) (site_at node r s) (message msg.from msg.payload) stops_kept))

pub record ShowsOthers (other : FileId) (w : World) (node : Node) (r : Running) (s : OsdState) (msg : Msg) (v : FileWorld) : Type 0 where
  pub rests : (outs : List Msg) → Sees other (stepped w node r s (event.Deliver msg) outs) v
  pub stops : (rec : Record) (how : Halt) (x : FileState) (site : Site) (happens : Happening) → (step_at node r s (event.Deliver msg)).turned.rec ≡ Some rec
      → Sees other (stopped_with w node r s (event.Deliver msg) rec how) (after v (acts node.id.0 x site happens stops_lost))

abbrev pub MessagesShow : Type 0
MessagesShow =
    (file : FileId) (w : World) (node : Node) (r : Running) (s : OsdState) (msg : Msg) (v : FileWorld) → RunsAs w node r s → IsAwake r s
    → file_concerned msg.payload ≡ Some file → Sees file w v → ShowsMessage file w node r s msg v

abbrev pub OthersRest : Type 0
OthersRest =
    (file other : FileId) (w : World) (node : Node) (r : Running) (s : OsdState) (msg : Msg) (v : FileWorld) → RunsAs w node r s → IsAwake r s
    → file_concerned msg.payload ≡ Some file → is_file file other ≡ false → Sees other w v → ShowsOthers other w node r s msg v

-- A Wake of an OSD past its silence: each of its files takes its step, and a file that it hasn't met rests.
abbrev pub WakesShow : Type 0
WakesShow =
    (file : FileId) (w : World) (node : Node) (r : Running) (s : OsdState) (outs : List Msg) (v : FileWorld) → RunsAs w node r s → IsAwake r s → Sees file w v
    → Sees file (stepped w node r s event.Wake outs) (after v (acts node.id.0 (file_seen file s) (site_at node r s) wake goes_on))
    ⊎ Sees file (stepped w node r s event.Wake outs) v

-- A silent OSD, a message about no file, and a call at an OSD leave every file as it is.
abbrev pub SilentRest : Type 0
SilentRest =
    (file : FileId) (w : World) (node : Node) (r : Running) (s : OsdState) (happens : Event) (outs : List Msg) (v : FileWorld) → RunsAs w node r s
    → awake_at s.started (max r.clock s.last) ≡ None → Sees file w v → Sees file (stepped w node r s happens outs) v

-- A node that stops loses its state of every file.
abbrev pub StopsShow : Type 0
StopsShow =
    (file : FileId) (w : World) (node : Node) (r : Running) (how : Halt) (x : FileState) (site : Site) (happens : Happening) (v : FileWorld)
    → node_in w.nodes node.id.0 ≡ Some node → Sees file w v → Sees file (halted w node r how) (after v (acts node.id.0 x site happens stops_lost))

-- An OSD that starts has of every file what its records say.
abbrev pub StartsShow : Type 0
StartsShow =
    (file : FileId) (w : World) (node : Node) (clock : ℕ) (v : FileWorld) → node_in w.nodes node.id.0 ≡ Some node → node.up ≡ None → node.role ≡ role.Osd → Sees file w v
    → Sees file (starts_as w node (next_boot node.kept) clock)
    (after v (starts node.id.0 (record { node = node.id; boot = next_boot node.kept; times = w.times })))

-- Where another node starts, nothing shows.
abbrev pub ServersRest : Type 0
ServersRest =
    (file : FileId) (w : World) (node : Node) (clock : ℕ) (v : FileWorld) → node_in w.nodes node.id.0 ≡ Some node → node.up ≡ None → node.role ≢ role.Osd → Sees file w v
    → Sees file (starts_as w node (next_boot node.kept) clock) v

-- What no step of an OSD reads of a node doesn't show: its clock, and where it is to stop; nor does what a client has.
abbrev pub PlansRest : Type 0
PlansRest =
    (file : FileId) (w : World) (node : Node) (r q : Running) (v : FileWorld) → node_in w.nodes node.id.0 ≡ Some node → node.up ≡ Some r
    → core_state file q.core ≡ core_state file r.core → Sees file w v → Sees file (record w { nodes = with_node w.nodes (record node { up = Some q }) }) v

abbrev pub TicksRest : Type 0
TicksRest = (file : FileId) (w : World) (count : ℕ) (v : FileWorld) → Sees file w v → Sees file (record w { nodes = map (ticked count) w.nodes }) v

-- Nor does a node that is declared: a server doesn't run yet, and a client never is an OSD.
abbrev pub DeclaredRest : Type 0
DeclaredRest =
    (file : FileId) (w : World) (node : Node) (v : FileWorld) → node_in w.nodes node.id.0 ≡ None → node_seen file (Some node) ≡ node_seen file None
    → Sees file w v → Sees file (record w { nodes = w.nodes ++ node ∷ [] }) v
