-- what the steps of an OSD are in the lease world of a version
use Rattle.std.specs.Prelude.{◌≡◌, ◌≢◌, ℕ, Bool, true, Option, Some, None, List, []}
use Rattle.xt_base.specs.declared.ids.NodeId.{NodeId}
use Rattle.xt_base.specs.declared.ids.FileId.{FileId}
use Rattle.xt_base.specs.declared.ids.Boot.{Boot}
use Rattle.xt_messages.specs.declared.event.Event.{Event}
use Rattle.xt_messages.specs.declared.event.Event.TheVariants as event
use Rattle.xt_messages.specs.declared.event.Mark.{Mark}
use Rattle.xt_messages.specs.declared.message.Msg.{Msg}
use Rattle.lease_safety.specs.State.{Has}
use Rattle.xt_protocol.specs.FileStates.{FileState}
use Rattle.xt_protocol.specs.OsdSteps.{Outside, OsdState}
use Rattle.lease_runs.specs.LeaseWorld.{LeaseSetting, LeaseNode, LeaseWorld, IsSeenAs, told_now}
use Rattle.lease_runs.specs.LeaseView.{held_ends, listed}
use Rattle.closed_lists.specs.ClosedWorld.{IsReachedFrom}
use Rattle.list_rows.specs.ListRows.{list_version}
use Rattle.list_rows.specs.ListSteps.{file_named, step_with_lists}
use Rattle.version_leases.specs.Seen.{file_of, osd_seen, is_of_version, IsPast, HasMembers, RunsIn, FileFits, OneEach}

-- Moves that spare the closed nodes lead to a world in which the node is seen so, and has sent these; the other nodes are as before.
pub record LeadsTo (g : LeaseSetting) (closed : ℕ → Bool) (world : LeaseWorld) (node : NodeId) (seen : LeaseNode) (outs : List Msg) : Type 0 where
  pub next : LeaseWorld
  pub reached : IsReachedFrom g closed world next
  pub here : IsSeenAs (next.node node.0) seen
  pub others : (n : ℕ) → n ≢ node.0 → next.node n ≡ world.node n
  pub sends : (m : Msg) → Has m outs → is_of_version g m ≡ true → Has m next.sent
  pub keeps : (m : Msg) → Has m world.sent → Has m next.sent

-- the file of the world is the one that an event concerns
abbrev pub Concerns : Event → FileId → Type 0
Concerns (event.Deliver msg) file = file_named msg.payload ≡ Some file
Concerns event.Wake file = ⊥
Concerns (event.Call call) file = ⊥

-- The end that a step reports in the world of a version: that of a lease that was won, where it is of the world's file, and its list is of
-- the version; else none.
pub data Reports (g : LeaseSetting) (s : OsdState) (happens : Event) (marks : List Mark) : Option ℕ → Type 0 where
  nothing : held_ends marks ≡ [] → Reports g s happens marks None
  of_stored : (end : Option ℕ) → Concerns happens g.file → list_version (file_of g s).kept.location ≡ g.list → held_ends marks ≡ listed end → Reports g s happens marks end
  of_others : (Concerns happens g.file → list_version (file_of g s).kept.location ≡ g.list → ⊥) → Reports g s happens marks None

-- the event may come to the node: a message is one that was sent to it, if it is of the version
abbrev pub MayCome : LeaseSetting → LeaseWorld → NodeId → Event → Type 0
MayCome g world node (event.Deliver msg) = (msg.to ≡ node) × (is_of_version g msg ≡ true → Has msg world.sent)
MayCome g world node event.Wake = Unit {0}
MayCome g world node (event.Call call) = Unit {0}

-- What an event is in the world of a version: moves that spare the nodes that have left the version, and the end that is reported.
pub record IsMoves (g : LeaseSetting) (closed : ℕ → Bool) (world : LeaseWorld) (node : NodeId) (gone : LeaseNode) (end : Option ℕ) (boot : Boot) (clock : ℕ) (s : OsdState)
    (outside : Outside) (happens : Event) : Type 0 where
  pub told : Option ℕ
  pub reports : Reports g s happens (step_with_lists outside s clock happens).turned.marks told
  pub leads : LeadsTo g closed world node (osd_seen g gone (told_now told end) boot clock (step_with_lists outside s clock happens).osd) (step_with_lists outside s clock happens).turned.outs

-- The step of a running OSD on an event that may come to it is such moves, whatever nodes have left the version: of these the node itself is
-- one only where its file has left it. A list that it stores at the version has the world's members; a closed file has neither round nor
-- lease; and its files stand in their order.
abbrev pub StepsAreMoves : Type 0
StepsAreMoves =
    (g : LeaseSetting) (closed : ℕ → Bool) (world : LeaseWorld) (node : NodeId) (gone : LeaseNode) (end : Option ℕ) (boot : Boot) (clock : ℕ) (s : OsdState) (outside : Outside) (happens : Event)
    → RunsIn g world node gone end boot clock s → MayCome g world node happens → OneEach s → ((f : FileState) → Has f s.files → FileFits f)
    → (closed node.0 ≡ true → IsPast g.list (file_of g s).kept)
    → HasMembers g (file_of g (step_with_lists outside s clock happens).osd).kept.location
    → IsMoves g closed world node gone end boot clock s outside happens
