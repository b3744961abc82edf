-- What may happen in a world of heads: the small steps of one node, which the rows of an OSD are made of. The rows of its replica
-- are the OSD's own functions. A row that is stopped or cut is a row of which not all is sent, and then a loss.
use Rattle.std.specs.Prelude.{◌≡◌, ℕ, ◌+◌, ◌≤◌, ◌==◌, if◌then◌else◌, Bool, true, false, List, [], ◌∷◌, ◌++◌, is_some, Option, None, Some}
use Rattle.xt_messages.specs.Limits.{FitsOp, IsObject}
use Rattle.xt_base.specs.declared.TheConstants.{OBJECTS}
use Rattle.xt_base.specs.declared.ids.Epoch.{Epoch}
use Rattle.xt_base.specs.declared.ids.OpId.{OpId}
use Rattle.xt_base.specs.declared.ids.Stamp.{Stamp}
use Rattle.xt_messages.specs.declared.file.FileHead.{FileHead}
use Rattle.xt_messages.specs.declared.file.Location.{Location}
use Rattle.xt_messages.specs.declared.file.ObjectVersion.{ObjectVersion}
use Rattle.xt_messages.specs.declared.file.Op.{Op}
use Rattle.xt_messages.specs.declared.file.Session.{Session}
use Rattle.xt_messages.specs.declared.file.Update.{Update}
use Rattle.xt_messages.specs.declared.record.FileRow.{FileRow}
use Rattle.xt_protocol.specs.Folds as folds
use Rattle.xt_protocol.specs.Heads.{version_of, session_of}
use Rattle.xt_protocol.specs.Objects.{present_body}
use Rattle.xt_protocol.specs.Stamps.{is_earlier, is_below, has_version}
use Rattle.xt_protocol.specs.declared.states.Acted.{Acted}
use Rattle.xt_protocol.specs.AskRows.{leaves_object}
use Rattle.xt_protocol.specs.PrimaryRows.{body_beyond, epoch_above}
use Rattle.xt_protocol.specs.ReplicaRows.{kept_after, gathered, headed, updated, stage_record}
use Rattle.xt_protocol.specs.Writes.{standing, fresh, update_of}
use Rattle.replica_safety.specs.Epochs.{name, AtMost}
use Rattle.replica_safety.specs.Lists.{Has}
use Rattle.replica_safety.specs.Rules.{Start}
use Rattle.replica_runs.specs.HeadWorld.{Primary, Idle, Gathering, Installing, Active, leads_in, Node, Message, Gather, Status, Head, UpdateSent, Ack, Piece, shown_if, Entry, TellsActive, TellsIssue, TellsCommit, ReadOk, WriteOk, World, Local, local, put, BeginsAt}
use Rattle.replica_runs.specs.Made.{IsMade}
use Rattle.replica_runs.specs.Marks.{Begins}
use Rattle.replica_runs.specs.Steps.{without}
use Rattle.replica_runs.specs.World.{IsMost}

-- A step of a node.
pub data Step : Type 0 where
  -- the lease
  Gains : Step
  Loses : Step
  -- of what the steps before it have sent, not all gets out
  Cuts : (sent : List Message) → Step
  -- the list is stored
  StoresList : (location : Location) → Step
  -- what is kept besides the head and the bodies changes
  StoresElse : (kept : FileRow) → Step
  -- a greater epoch is promised, and nothing is answered
  Raises : (epoch : Epoch) → Step
  -- rows of a replica
  Gathers : (epoch : Epoch) → Step
  TakesHead : (epoch : Epoch) → (head : FileHead) → Step
  TakesUpdate : (update : Update) → Step
  -- bodies
  SendsBody : (object : ℕ) → (version : Stamp) → Step
  KeepsBody : (object : ℕ) → (version : Stamp) → (bytes : List ℕ) → Step
  -- of its bodies it keeps these versions, and what the bodies are then
  Forgets : (held : List ObjectVersion) → (body : ℕ → Stamp → List ℕ) → Step
  -- rows of a primary
  Draws : (learnt : ℕ) → Step
  SendsGather : (epoch : Epoch) → Step
  CountsStatus : (epoch : Epoch) → (statuses : ℕ → Option FileHead) → (replica : ℕ) → (head : FileHead) → Step
  Chooses : (epoch : Epoch) → (statuses : ℕ → Option FileHead) → (source : ℕ) → (head : FileHead) → Step
  SendsChosen : (epoch : Epoch) → (chosen : FileHead) → (acked : ℕ → Bool) → Step
  SendsOwn : (epoch : Epoch) → Step
  CountsInstalled : (epoch : Epoch) → (chosen : FileHead) → (acked : ℕ → Bool) → (replica : ℕ) → (stamp : Stamp) → Step
  Activates : (epoch : Epoch) → (chosen : FileHead) → (acked : ℕ → Bool) → Step
  -- the update that a call of this id makes under this truncate epoch
  Issues : (epoch : Epoch) → (committed : FileHead) → (acked : ℕ → Bool) → (id : OpId) → (truncation : ℕ) → (update : Update) → Step
  SendsUpdate : (epoch : Epoch) → (committed : FileHead) → (update : Update) → (acked : ℕ → Bool) → Step
  CountsUpdated : (epoch : Epoch) → (committed : FileHead) → (update : Update) → (acked : ℕ → Bool) → (replica : ℕ) → (stamp : Stamp) → Step
  Commits : (epoch : Epoch) → (committed : FileHead) → (update : Update) → (acked : ℕ → Bool) → Step
  AnswersRead : (epoch : Epoch) → (committed : FileHead) → (issued : Option Update) → (acked : ℕ → Bool) → (object : ℕ) → Step
  AnswersRepeated : (epoch : Epoch) → (committed : FileHead) → (issued : Option Update) → (acked : ℕ → Bool) → (client : ℕ) → (session : Session) → Step

abbrev pub with_primary : Local → Primary → Local
with_primary l p = record l { node = record { kept = l.node.kept; body = l.node.body; primary = p } }

abbrev pub sends : Local → Message → Local
sends l m = record l { sent = m ∷ l.sent }

abbrev pub tells : Local → Entry → Local
tells l e = record l { entries = e ∷ l.entries }

-- a row of the OSD's replica: its record changes what is kept, and its answer is sent
abbrev pub with_acted : ℕ → Local → Acted → Local
with_acted n l acted =
    record l {
      node = record {
        kept = kept_after l.node.kept acted.rec;
        body = body_beyond l.node.kept.file acted.rec l.node.body;
        primary = l.node.primary;
      };
      sent = shown_if n acted.answer ++ l.sent;
    }

-- a record alone
abbrev pub keeping : Local → ℕ → Stamp → List ℕ → Acted
keeping l object version bytes = record { rec = stage_record l.node.kept.file l.node.kept.held object version bytes; answer = None }

-- the epoch that a node draws
abbrev pub drawn : ℕ → ℕ → Node → Epoch
drawn n learnt x = epoch_above (record { node = record { 0 = n }; file = x.kept.file; stripe = 0 }) learnt x.kept.head

abbrev pub nobody : {A : Type 0} → ℕ → Option A
nobody m = None

abbrev pub none_acked : ℕ → Bool
none_acked m = false

abbrev pub with_status : (ℕ → Option FileHead) → ℕ → FileHead → ℕ → Option FileHead
with_status statuses r h m = if m == r then Some h else statuses m

abbrev pub with_acked : (ℕ → Bool) → ℕ → ℕ → Bool
with_acked acked r m = if m == r then true else acked m

-- the head that a primary brings its peers to, while its own isn't of its epoch
abbrev pub target_of : Epoch → FileHead → FileHead
target_of e chosen = record chosen { promised = e; stamp = record { epoch = e; count = chosen.stamp.count } }

abbrev pub last_id : FileHead → ℕ × ℕ
last_id head = (head.last.client.0, head.last.number)

abbrev pub next_stamp : Epoch → FileHead → Stamp
next_stamp e head = record { epoch = e; count = head.stamp.count + 1 }

-- What is there after a step of this node.
abbrev pub after : ℕ → Local → Step → Local
after n l Gains = record l { holder = Some n }
after n l Loses = record (with_primary l Idle) { holder = without n l.holder }
after n l (Cuts sent) = record l { sent = sent }
after n l (StoresList location) =
    record l { node = record { kept = record l.node.kept { location = Some location }; body = l.node.body; primary = l.node.primary } }
after n l (StoresElse kept) = record l { node = record { kept = kept; body = l.node.body; primary = l.node.primary } }
after n l (Raises e) =
    record l {
      node = record {
        kept = record l.node.kept { head = record l.node.kept.head { promised = e } };
        body = l.node.body;
        primary = l.node.primary;
      };
    }
after n l (Gathers e) = with_acted n l (gathered l.node.kept.file l.node.kept.head e)
after n l (TakesHead e h) = with_acted n l (headed l.node.kept.file l.node.kept.head l.node.kept.held e h)
after n l (TakesUpdate u) = with_acted n l (updated l.node.kept.file l.node.kept.head u)
after n l (SendsBody o v) = sends l (Piece o v (l.node.body o v))
after n l (KeepsBody o v bytes) = with_acted n l (keeping l o v bytes)
after n l (Forgets held body) =
    record l { node = record { kept = record l.node.kept { held = held }; body = body; primary = l.node.primary } }
after n l (Draws learnt) =
    let e = drawn n learnt l.node in
    record l {
      node = record {
        kept = record l.node.kept { head = record l.node.kept.head { promised = e } };
        body = l.node.body;
        primary = Gathering e nobody;
      };
      sent = Gather e ∷ l.sent;
    }
after n l (SendsGather e) = sends l (Gather e)
after n l (CountsStatus e statuses r h) = with_primary l (Gathering e (with_status statuses r h))
after n l (Chooses e statuses source h) = with_primary l (Installing e h none_acked)
after n l (SendsChosen e chosen acked) = sends l (Head e (target_of e chosen))
after n l (SendsOwn e) = sends l (Head e l.node.kept.head)
after n l (CountsInstalled e chosen acked r t) = with_primary l (Installing e chosen (with_acked acked r))
after n l (Activates e chosen acked) =
    tells (with_primary l (Active e l.node.kept.head None none_acked))
    (TellsActive n l.node.kept.head.stamp.count (last_id l.node.kept.head))
after n l (Issues e c acked id truncation u) =
    sends (tells (with_primary l (Active e c (Some u) none_acked)) (TellsIssue n u.stamp.count (name u))) (UpdateSent u)
after n l (SendsUpdate e c u acked) = sends l (UpdateSent u)
after n l (CountsUpdated e c u acked r t) = with_primary l (Active e c (Some u) (with_acked acked r))
after n l (Commits e c u acked) =
    tells (tells (with_primary l (Active e l.node.kept.head None none_acked)) (TellsCommit n u.stamp.count (name u)))
    (WriteOk n u.stamp.count (name u))
after n l (AnswersRead e c issued acked o) =
    tells l (ReadOk n c.stamp.count c.mark.size o (present_body l.node.body (version_of c.versions o) o))
after n l (AnswersRepeated e c issued acked client s) = tells l (WriteOk n s.count (client, s.number))

-- The head of a majority's statuses: one of them, and none has a greater stamp.
pub record IsChosen (members : List ℕ) (statuses : ℕ → Option FileHead) (source : ℕ) (h : FileHead) : Type 0 where
  pub most : IsMost members (λ m. is_some (statuses m))
  pub one : statuses source ≡ Some h
  pub greatest : (m : ℕ) (g : FileHead) → statuses m ≡ Some g → AtMost g.stamp h.stamp

-- What a call asks is within the limits of what can be sent, and inside its object.
pub record IsAllowed (stripe : ℕ) (asked : Op) : Type 0 where
  pub fits : FitsOp asked
  pub inside : leaves_object stripe asked ≡ false

-- the versions that are held of these are kept
abbrev pub AreKept : List ObjectVersion → List ObjectVersion → List ObjectVersion → Type 0
AreKept old new versions = (v : ObjectVersion) → Has v versions → has_version old v ≡ true → has_version new v ≡ true

-- the versions of the head that a primary serves
abbrev pub served_versions : Primary → List ObjectVersion
served_versions (Active e committed issued acked) = committed.versions
served_versions _ = []

-- Of the bodies of a node these may be kept: none is new, each is what it was, and those of its head and of the head that it serves
-- are among them.
pub record MayForget (x : Node) (held : List ObjectVersion) (body : ℕ → Stamp → List ℕ) : Type 0 where
  pub less : (v : ObjectVersion) → has_version held v ≡ true → has_version x.kept.held v ≡ true
  pub same : (o : ℕ) (v : Stamp) → has_version held (folds.body_of o v) ≡ true → body o v ≡ x.body o v
  pub head : AreKept x.kept.held held x.kept.head.versions
  pub served : AreKept x.kept.held held (served_versions x.primary)

-- The update is what the operation of this id makes over the committed head, under the next stamp.
pub record IsMadeOver (stripe : ℕ) (ops : ℕ × ℕ → Op) (body : ℕ → Stamp → List ℕ) (e : Epoch) (c : FileHead) (id : OpId) (truncation : ℕ) (u : Update) : Type 0 where
  pub allowed : IsAllowed stripe (ops (id.client.0, id.number))
  pub stands : standing OBJECTS stripe c id truncation (ops (id.client.0, id.number)) ≡ fresh
  pub makes : update_of stripe body c (next_stamp e c) id truncation (ops (id.client.0, id.number)) ≡ Some u

-- When this node may do a step.
abbrev pub May : ℕ → (ℕ × ℕ → Op) → List ℕ → ℕ → Local → Step → Type 0
-- the leases let one node in at a time
May stripe ops members n l Gains = l.holder ≡ None
May stripe ops members n l Loses = Unit {0}
May stripe ops members n l (Cuts sent) = (m : Message) → Has m sent → Has m l.sent
May stripe ops members n l (StoresList location) = Unit {0}
May stripe ops members n l (StoresElse kept) = (kept.head ≡ l.node.kept.head) × (kept.held ≡ l.node.kept.held)
May stripe ops members n l (Raises e) = is_earlier l.node.kept.head.promised e ≡ true
May stripe ops members n l (Gathers e) = Has (Gather e) l.sent
May stripe ops members n l (TakesHead e h) = Has (Head e h) l.sent
May stripe ops members n l (TakesUpdate u) = Has (UpdateSent u) l.sent
May stripe ops members n l (SendsBody o v) = has_version l.node.kept.held (folds.body_of o v) ≡ true
May stripe ops members n l (KeepsBody o v bytes) = Has (Piece o v bytes) l.sent
May stripe ops members n l (Forgets held body) = MayForget l.node held body
May stripe ops members n l (Draws learnt) = l.holder ≡ Some n
May stripe ops members n l (SendsGather e) = leads_in l.node.primary ≡ Some e
-- a status is counted once
May stripe ops members n l (CountsStatus e statuses r h) =
    (l.node.primary ≡ Gathering e statuses) × (statuses r ≡ None) × Has (Status r e h) l.sent
May stripe ops members n l (Chooses e statuses source h) = (l.node.primary ≡ Gathering e statuses) × IsChosen members statuses source h
May stripe ops members n l (SendsChosen e chosen acked) = l.node.primary ≡ Installing e chosen acked
May stripe ops members n l (SendsOwn e) = leads_in l.node.primary ≡ Some e
-- an acknowledgement counts in its epoch, however often it comes
May stripe ops members n l (CountsInstalled e chosen acked r t) =
    (l.node.primary ≡ Installing e chosen acked) × Has (Ack r t) l.sent × (t.epoch ≡ e)
-- a majority has the head, the node itself among it
May stripe ops members n l (Activates e chosen acked) = (l.node.primary ≡ Installing e chosen acked) × IsMost members acked × (acked n ≡ true)
May stripe ops members n l (Issues e c acked id truncation u) =
    (l.node.primary ≡ Active e c None acked) × IsMadeOver stripe ops l.node.body e c id truncation u
May stripe ops members n l (SendsUpdate e c u acked) = l.node.primary ≡ Active e c (Some u) acked
May stripe ops members n l (CountsUpdated e c u acked r t) =
    (l.node.primary ≡ Active e c (Some u) acked) × Has (Ack r t) l.sent × (t.epoch ≡ e) × (is_below t u.stamp ≡ false)
May stripe ops members n l (Commits e c u acked) = (l.node.primary ≡ Active e c (Some u) acked) × IsMost members acked × (acked n ≡ true)
May stripe ops members n l (AnswersRead e c issued acked o) = (l.node.primary ≡ Active e c issued acked) × IsObject o
May stripe ops members n l (AnswersRepeated e c issued acked client s) =
    (l.node.primary ≡ Active e c issued acked) × (session_of c.sessions client ≡ Some s)

-- Several steps of one node.
abbrev pub after_steps : ℕ → Local → List Step → Local
after_steps n l [] = l
after_steps n l (x ∷ xs) = after_steps n (after n l x) xs

abbrev pub MayAll : ℕ → (ℕ × ℕ → Op) → List ℕ → ℕ → Local → List Step → Type 0
MayAll stripe ops members n l [] = Unit {0}
MayAll stripe ops members n l (x ∷ xs) = May stripe ops members n l x × MayAll stripe ops members n (after n l x) xs

-- what a node does, without a step of another one between
pub record Turn : Type 0 where
  pub node : ℕ
  pub steps : List Step

-- A run: turns, one after the other.
abbrev pub after_turns : World → List Turn → World
after_turns w [] = w
after_turns w (t ∷ ts) = after_turns (put w t.node (after_steps t.node (local w t.node) t.steps)) ts

abbrev pub MayTurn : ℕ → (ℕ × ℕ → Op) → List ℕ → World → List Turn → Type 0
MayTurn stripe ops members w [] = Unit {0}
MayTurn stripe ops members w (t ∷ ts) =
    MayAll stripe ops members t.node (local w t.node) t.steps
    × MayTurn stripe ops members (put w t.node (after_steps t.node (local w t.node) t.steps)) ts

-- P holds of the entries after every run from every start.
abbrev pub AlwaysOfHeads : (ℕ → (ℕ × ℕ → Op) → Start → List Entry → Type 0) → Type 0
AlwaysOfHeads P = (stripe : ℕ) (ops : ℕ × ℕ → Op) (members : List ℕ) (start : Start) (w : World) (turns : List Turn) → 1 ≤ stripe
    → Begins (IsMade stripe ops) members start → BeginsAt start w → MayTurn stripe ops members w turns
    → P stripe ops start (after_turns w turns).entries
