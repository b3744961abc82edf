-- Runs of one file among OSDs, who holds it being given.
use Rattle.std.specs.Prelude.{◌≡◌, ◌⊎◌, true, ℕ, ◌≤◌, List, [], ◌∷◌, ◌++◌, map, Option, Some, None}
use Rattle.xt_base.specs.declared.ids.Epoch.{Epoch}
use Rattle.xt_base.specs.declared.ids.NodeId.{NodeId}
use Rattle.xt_base.specs.declared.ids.FileId.{FileId}
use Rattle.xt_base.specs.declared.ids.Stamp.{Stamp}
use Rattle.xt_messages.specs.declared.event.Mark.{Mark}
use Rattle.xt_messages.specs.declared.file.Op.{Op}
use Rattle.xt_messages.specs.declared.file.ObjectVersion.{ObjectVersion}
use Rattle.xt_messages.specs.declared.message.Msg.{Msg}
use Rattle.xt_messages.specs.declared.file.FileHead.{FileHead}
use Rattle.xt_messages.specs.declared.message.Payload.{Payload}
use Rattle.xt_messages.specs.declared.message.Payload.TheVariants as payload
use Rattle.xt_messages.specs.declared.record.FileRow.{FileRow}
use Rattle.xt_messages.specs.declared.record.Record.{Record}
use Rattle.xt_protocol.specs.Folds.{new_row, body_of}
use Rattle.xt_protocol.specs.Forgetting.{versions_under}
use Rattle.xt_protocol.specs.Stamps.{is_earlier, has_version}
use Rattle.xt_protocol.specs.LeaseRows.{Awake}
use Rattle.osd_invariants.specs.Sound.{IsHeld}
use Rattle.xt_protocol.specs.FileStates.{FileState, Site, FileStep, file_from, and_then}
use Rattle.xt_protocol.specs.FileSteps.{step_of_file, wake_of_file}
use Rattle.xt_protocol.specs.Overdue.{expired}
use Rattle.xt_protocol.specs.PrimaryRows.{body_beyond}
use Rattle.xt_protocol.specs.ReplicaRows.{kept_after, stage_record}
use Rattle.xt_protocol.specs.declared.states.Tenure.{Tenure}
use Rattle.replica_safety.specs.Epochs.{at_node}
use Rattle.replica_safety.specs.Lists.{Has, AreDistinct}
use Rattle.replica_safety.specs.Rules.{Start}
use Rattle.replica_runs.specs.FileHeads.{bodies_in, head_of}
use Rattle.replica_runs.specs.HeadOrder.{AreOnOneOrder, AreChanges, IssuesComeFirst, order_of, order_at, known_at}
use Rattle.replica_runs.specs.HeadWorld.{shown, Message, Piece, IsOldPiece, Entry, BodiesAre, has_at}
use Rattle.replica_runs.specs.Made.{IsMade}
use Rattle.replica_runs.specs.Marks.{Begins}
use Rattle.replica_runs.specs.Steps.{without}
use Rattle.replica_runs.specs.FileView.{settled, ListFits, IsOrderly, IsFree, AskComes}
use Rattle.replica_runs.specs.HeadSteps.{AreKept}
use Rattle.replica_runs.specs.Seen.{AreTold, NamesHeld}

-- A node of the file: its state, none while it doesn't run; what it keeps of the file; and what the bodies are.
pub record FileNode : Type 0 where
  pub state : Option FileState
  pub kept : FileRow
  pub body : ℕ → Stamp → List ℕ

-- a message, with its sender; any node may take it, at any time and as often as it comes
pub record Sent : Type 0 where
  pub from : ℕ
  pub content : Payload

-- what a step of a node has marked
pub record Tale : Type 0 where
  pub node : ℕ
  pub marks : List Mark

pub record FileWorld : Type 0 where
  pub nodes : ℕ → FileNode
  -- the node that holds the file and leads
  pub holder : Option ℕ
  pub sent : List Sent
  -- the newest first
  pub tales : List Tale

pub data Happening : Type 0 where
  message : (from : NodeId) → (content : Payload) → Happening
  wake : Happening

-- what is overdue at a file, and then what happens
abbrev pub step_on : Site → FileState → Happening → FileStep
step_on site s (message from content) = step_of_file site s from content
step_on site s wake = and_then (expired site s) (wake_of_file site)

-- How a step ends: the node goes on; it stops after the step, however few of its messages got out; or it stops in its append, and
-- its record is kept, or lost.
pub data Ending : Type 0 where
  goes_on : Ending
  stops : Ending
  stops_kept : Ending
  stops_lost : Ending

pub data Event : Type 0 where
  acts : (node : ℕ) → (state : FileState) → (site : Site) → (happens : Happening) → (how : Ending) → Event
  starts : (node : ℕ) → (awake : Awake) → Event
  -- of its bodies the node keeps these versions, and what the bodies are then
  forgets : (node : ℕ) → (state : FileState) → (held : List ObjectVersion) → (body : ℕ → Stamp → List ℕ) → Event
  -- the node holds no more
  lapses : (node : ℕ) → Event
  -- a node that runs keeps a body that was sent
  takes : (node : ℕ) → (state : FileState) → (object : ℕ) → (version : Stamp) → (bytes : List ℕ) → Event
  -- a node that doesn't run keeps a body that was sent; of its bodies it keeps these; it promises a greater epoch; and what it keeps besides
  -- the head and the bodies changes
  gets : (node object : ℕ) → (version : Stamp) → (bytes : List ℕ) → Event
  drops : (node : ℕ) → (held : List ObjectVersion) → (body : ℕ → Stamp → List ℕ) → Event
  raises : (node : ℕ) → (epoch : Epoch) → Event
  stores : (node : ℕ) → (kept : FileRow) → Event
  -- with what it keeps it begins to take part in this version of the list; or it takes part no more, though it may well run
  joins : (node : ℕ) → (state : FileState) → Event
  parts : (node : ℕ) → Event

abbrev pub sent_by : ℕ → List Msg → List Sent
sent_by n outs = map (λ m. record { from = n; content = m.payload }) outs

-- who holds after a step: its node while it leads
abbrev pub holder_after : ℕ → Option Tenure → Option ℕ → Option ℕ
holder_after n None holder = without n holder
holder_after n (Some t) holder = Some n

-- a node that keeps this record
abbrev pub keeping : FileNode → Option FileState → Option Record → FileNode
keeping x state rec = record { state = state; kept = kept_after x.kept rec; body = body_beyond x.kept.file rec x.body }

-- what is kept, under this promise
abbrev pub raised : FileRow → Epoch → FileRow
raised row e = record row { head = record row.head { promised = e } }

abbrev pub acted : FileWorld → ℕ → FileStep → Ending → FileWorld
acted w n step goes_on = record {
  nodes = at_node n (keeping (w.nodes n) (Some step.state) step.turned.rec) w.nodes;
  holder = holder_after n step.state.primary.tenure w.holder;
  sent = sent_by n step.turned.outs ++ w.sent;
  tales = record { node = n; marks = step.turned.marks } ∷ w.tales;
}
acted w n step stops = record {
  nodes = at_node n (keeping (w.nodes n) None step.turned.rec) w.nodes;
  holder = without n w.holder;
  sent = sent_by n step.turned.outs ++ w.sent;
  tales = record { node = n; marks = step.turned.marks } ∷ w.tales;
}
acted w n step stops_kept = record {
  nodes = at_node n (keeping (w.nodes n) None step.turned.rec) w.nodes;
  holder = without n w.holder;
  sent = w.sent;
  tales = w.tales;
}
acted w n step stops_lost = record w { nodes = at_node n (keeping (w.nodes n) None None) w.nodes; holder = without n w.holder }

abbrev pub after : FileWorld → Event → FileWorld
after w (acts n s site happens how) = acted w n (step_on site s happens) how
after w (starts n awake) = record w { nodes = at_node n (record (w.nodes n) { state = Some (file_from awake (w.nodes n).kept) }) w.nodes }
after w (forgets n s held body) = record w {
  nodes = at_node n (record {
    state = Some (record s { kept = record s.kept { held = held } });
    kept = record (w.nodes n).kept { held = held };
    body = body;
  }) w.nodes;
}
after w (lapses n) = record w { holder = without n w.holder }
after w (takes n s o v bytes) =
    let rec = stage_record (w.nodes n).kept.file (w.nodes n).kept.held o v bytes in
    record w { nodes = at_node n (keeping (w.nodes n) (Some (record s { kept = kept_after s.kept rec })) rec) w.nodes }
after w (gets n o v bytes) = record w {
  nodes = at_node n (keeping (w.nodes n) None (stage_record (w.nodes n).kept.file (w.nodes n).kept.held o v bytes)) w.nodes;
}
after w (drops n held body) = record w { nodes = at_node n (record { state = None; kept = record (w.nodes n).kept { held = held }; body = body }) w.nodes }
after w (raises n e) = record w { nodes = at_node n (record { state = None; kept = raised (w.nodes n).kept e; body = (w.nodes n).body }) w.nodes }
after w (stores n kept) = record w { nodes = at_node n (record { state = None; kept = kept; body = (w.nodes n).body }) w.nodes }
after w (joins n s) = record w { nodes = at_node n (record (w.nodes n) { state = Some s }) w.nodes }
after w (parts n) = record w { nodes = at_node n (record (w.nodes n) { state = None }) w.nodes; holder = without n w.holder }

-- A world of a file in which nothing is kept, sent or marked yet.
abbrev pub first_world : FileId → FileWorld
first_world file = record {
  nodes = λ r. record { state = None; kept = new_row file; body = λ o v. [] };
  holder = None;
  sent = [];
  tales = [];
}

-- A message was sent, or says nothing of replication; an ask is within its limits, and of this version of the list.
abbrev pub Comes : ℕ → (ℕ × ℕ → Op) → List ℕ → FileWorld → Happening → Type 0
Comes stripe ops members w (message from content) =
    (Has (record { from = from.0; content = content }) w.sent ⊎ (shown from.0 content ≡ [])) × AskComes stripe ops members from content
Comes stripe ops members w wake = Unit {0}

-- a status that a node sent itself names versions of the head that it has
abbrev pub OwnTells : ℕ → FileHead → NodeId → Payload → Type 0
OwnTells n own from (payload.Status file epoch head) = from.0 ≡ n → (v : ObjectVersion) → Has v head.versions → Has v own.versions
OwnTells n own from _ = Unit {0}

abbrev pub OwnComes : ℕ → FileState → Happening → Type 0
OwnComes n s (message from content) = OwnTells n s.kept.head from content
OwnComes n s wake = Unit {0}

-- Of the bodies of a node that runs these may be kept: none is new, each is what it was, and those of its head and those that its
-- primary needs are among them.
pub record MayForget (w : FileWorld) (n : ℕ) (s : FileState) (held : List ObjectVersion) (body : ℕ → Stamp → List ℕ) : Type 0 where
  pub runs : (w.nodes n).state ≡ Some s
  pub less : (v : ObjectVersion) → has_version held v ≡ true → has_version (w.nodes n).kept.held v ≡ true
  pub same : (o : ℕ) (v : Stamp) → has_version held (body_of o v) ≡ true → body o v ≡ (w.nodes n).body o v
  pub head : AreKept (w.nodes n).kept.held held (w.nodes n).kept.head.versions
  pub led : AreKept (w.nodes n).kept.held held (versions_under (record { 0 = n }) s.primary.tenure)

-- Of the bodies of a node that doesn't run these may be kept.
pub record MayDrop (w : FileWorld) (n : ℕ) (held : List ObjectVersion) (body : ℕ → Stamp → List ℕ) : Type 0 where
  pub rests : (w.nodes n).state ≡ None
  pub less : (v : ObjectVersion) → has_version held v ≡ true → has_version (w.nodes n).kept.held v ≡ true
  pub same : (o : ℕ) (v : Stamp) → has_version held (body_of o v) ≡ true → body o v ≡ (w.nodes n).body o v
  pub head : AreKept (w.nodes n).kept.held held (w.nodes n).kept.head.versions

-- a message that was sent brings this body
pub record IsBrought (w : FileWorld) (o : ℕ) (v : Stamp) (bytes : List ℕ) : Type 0 where
  pub by : Sent
  pub sent : Has by w.sent
  pub brings : Has (Piece o v bytes) (shown by.from by.content)

-- the rest of what a node keeps of the file may become this
pub record MayStore (stripe : ℕ) (members : List ℕ) (w : FileWorld) (n : ℕ) (kept : FileRow) : Type 0 where
  pub rests : (w.nodes n).state ≡ None
  pub head : kept.head ≡ (w.nodes n).kept.head
  pub held : kept.held ≡ (w.nodes n).kept.held
  pub file : kept.file ≡ (w.nodes n).kept.file
  pub list : ListFits stripe members kept.location

-- the state with which a node begins to take part
pub record MayJoin (stripe : ℕ) (ops : ℕ × ℕ → Op) (members : List ℕ) (w : FileWorld) (n : ℕ) (s : FileState) : Type 0 where
  pub rests : (w.nodes n).state ≡ None
  pub same : s.kept ≡ (w.nodes n).kept
  pub orderly : IsOrderly stripe ops members s

abbrev pub MayEnd : FileStep → Ending → Type 0
MayEnd step stops_kept = (rec : Record) × (step.turned.rec ≡ Some rec)
MayEnd step _ = Unit {0}

-- A node takes a step: a tenure that hasn't lapsed is the holder's, and a lease is won while nobody else holds.
pub record MayAct (stripe : ℕ) (ops : ℕ × ℕ → Op) (members : List ℕ) (w : FileWorld) (n : ℕ) (s : FileState) (site : Site) (happens : Happening) (how : Ending) : Type 0 where
  pub runs : (w.nodes n).state ≡ Some s
  pub here : site.node.0 ≡ n
  pub bodies : site.body s.kept.file ≡ (w.nodes n).body
  pub comes : Comes stripe ops members w happens
  pub own : OwnComes n s happens
  pub holds : (t : Tenure) → (settled site s).primary.tenure ≡ Some t → w.holder ≡ Some n
  pub alone : IsHeld (step_on site s happens).state.lease → IsFree n w.holder
  pub ends : MayEnd (step_on site s happens) how

abbrev pub May : ℕ → (ℕ × ℕ → Op) → List ℕ → FileWorld → Event → Type 0
May stripe ops members w (acts n s site happens how) = MayAct stripe ops members w n s site happens how
May stripe ops members w (starts n awake) = (w.nodes n).state ≡ None
May stripe ops members w (forgets n s held body) = MayForget w n s held body
May stripe ops members w (lapses n) = Unit {0}
May stripe ops members w (takes n s o v bytes) = ((w.nodes n).state ≡ Some s) × IsBrought w o v bytes
May stripe ops members w (gets n o v bytes) = ((w.nodes n).state ≡ None) × IsBrought w o v bytes
May stripe ops members w (drops n held body) = MayDrop w n held body
May stripe ops members w (raises n e) = ((w.nodes n).state ≡ None) × (is_earlier (w.nodes n).kept.head.promised e ≡ true)
May stripe ops members w (stores n kept) = MayStore stripe members w n kept
May stripe ops members w (joins n s) = MayJoin stripe ops members w n s
May stripe ops members w (parts n) = Unit {0}

abbrev pub after_all : FileWorld → List Event → FileWorld
after_all w [] = w
after_all w (e ∷ es) = after_all (after w e) es

abbrev pub MayAll : ℕ → (ℕ × ℕ → Op) → List ℕ → FileWorld → List Event → Type 0
MayAll stripe ops members w [] = Unit {0}
MayAll stripe ops members w (e ∷ es) = May stripe ops members w e × MayAll stripe ops members (after w e) es

-- A world in which this version of the list begins: no node runs, each keeps the head and the bodies of its writes, and what was sent is
-- bodies of before.
pub record BeginsFile (stripe : ℕ) (members : List ℕ) (start : Start) (w : FileWorld) : Type 0 where
  pub stopped : (r : ℕ) → (w.nodes r).state ≡ None
  pub head : (r : ℕ) → (w.nodes r).kept.head ≡ head_of (start.promised r) start.epoch (has_at start r)
  pub bodies : (r : ℕ) → BodiesAre (w.nodes r).kept (w.nodes r).body (bodies_in (has_at start r))
  pub names : (r : ℕ) → NamesHeld (w.nodes r).kept.held (w.nodes r).kept.head.versions
  pub list : (r : ℕ) → ListFits stripe members (w.nodes r).kept.location
  pub free : w.holder ≡ None
  pub silent : (x : Sent) → Has x w.sent → (m : Message) → Has m (shown x.from x.content) → IsOldPiece start.old m
  pub untold : w.tales ≡ []

-- these entries are what the tales report, the newest of both first
abbrev pub Tells : ℕ → (ℕ × ℕ → Op) → List Tale → List Entry → Type 0
Tells stripe ops [] es = es ≡ []
Tells stripe ops (t ∷ ts) es = (before : List Entry) × Tells stripe ops ts before × AreTold stripe ops t.node t.marks before es

-- All that was marked is reported by entries that fit one order of writes.
pub record IsOnOneOrder (stripe : ℕ) (ops : ℕ × ℕ → Op) (start : Start) (w : FileWorld) : Type 0 where
  pub entries : List Entry
  pub told : Tells stripe ops w.tales entries
  pub fit : AreOnOneOrder stripe ops (order_at start) entries
  -- what stands in the order are writes and truncations
  pub changes : AreChanges ops (order_of (order_at start) entries)
  -- and each had been issued before
  pub issued : IssuesComeFirst (known_at start) (order_at start) entries

abbrev pub AlwaysOnOneOrder : Type 0
AlwaysOnOneOrder =
    (stripe : ℕ) (ops : ℕ × ℕ → Op) (members : List ℕ) (start : Start) (w : FileWorld) (events : List Event) → 1 ≤ stripe → AreDistinct members
    → Begins (IsMade stripe ops) members start → BeginsFile stripe members start w → MayAll stripe ops members w events
    → IsOnOneOrder stripe ops start (after_all w events)
