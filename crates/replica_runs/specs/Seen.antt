-- What an OSD's file shows in the world of heads of that file.
use Rattle.std.specs.Prelude.{◌≡◌, ◌⊎◌, ℕ, Bool, true, ◌+◌, ◌≤◌, List, [], ◌∷◌, length, drop, map, count_by, Option, Some, None}
use Rattle.xt_base.specs.MemberList.{has_node}
use Rattle.xt_base.specs.Overlay.{cut_or_filled}
use Rattle.xt_base.specs.declared.ids.NodeId.{NodeId}
use Rattle.xt_base.specs.declared.ids.FileId.{FileId}
use Rattle.xt_base.specs.declared.ids.Epoch.{Epoch}
use Rattle.xt_base.specs.declared.ids.OpId.{OpId}
use Rattle.xt_base.specs.declared.ids.Stamp.{Stamp}
use Rattle.xt_messages.specs.declared.event.Mark.{Mark}
use Rattle.xt_messages.specs.declared.event.Mark.TheVariants as mark
use Rattle.xt_messages.specs.declared.file.FileHead.{FileHead}
use Rattle.xt_messages.specs.declared.file.ObjectVersion.{ObjectVersion}
use Rattle.xt_messages.specs.declared.file.Op.{Op}
use Rattle.xt_messages.specs.declared.file.Op.TheVariants as op
use Rattle.xt_messages.specs.declared.message.Msg.{Msg}
use Rattle.xt_messages.specs.declared.message.Payload.{Payload}
use Rattle.xt_messages.specs.declared.message.Payload.TheVariants as payload
use Rattle.xt_messages.specs.declared.record.FileRow.{FileRow}
use Rattle.xt_protocol.specs.declared.turned.Turned.{Turned}
use Rattle.xt_protocol.specs.Objects.{readable}
use Rattle.xt_protocol.specs.Stamps.{has_version}
use Rattle.xt_protocol.specs.PrimaryRows.{body_beyond}
use Rattle.xt_protocol.specs.Primaries.{Ground, peer_in, reported, last_sent, is_ready}
use Rattle.xt_protocol.specs.ReplicaRows.{kept_after}
use Rattle.xt_protocol.specs.declared.states.IssuedUpdate.{IssuedUpdate}
use Rattle.xt_protocol.specs.declared.states.Peer.{Peer}
use Rattle.xt_protocol.specs.declared.states.Progress.{Progress}
use Rattle.xt_protocol.specs.declared.states.Progress.TheVariants as progress
use Rattle.xt_protocol.specs.declared.states.Tenure.{Tenure}
use Rattle.replica_safety.specs.Lists.{Has}
use Rattle.replica_runs.specs.HeadSteps.{Step, none_acked, after_steps, MayAll}
use Rattle.replica_runs.specs.HeadWorld.{Primary, Idle, Gathering, Installing, Active, Message, shown, shown_if, Entry, TellsActive, TellsIssue, TellsCommit, ReadOk, WriteOk, Local}

-- The primary.

-- the statuses that are counted, node by node
abbrev pub statuses_of : List Peer → ℕ → Option FileHead
statuses_of peers m = reported (peer_in peers (record { 0 = m }))

abbrev pub acked_by : List NodeId → ℕ → Bool
acked_by acked m = has_node acked m

-- an active primary, by what it has issued
abbrev pub active_as : Epoch → FileHead → Option IssuedUpdate → Primary
active_as e committed None = Active e committed None none_acked
active_as e committed (Some issued) = Active e committed (Some issued.update) (acked_by issued.acked)

-- while bodies are fetched the head is chosen, and nobody has acknowledged it
abbrev pub leads_as : Epoch → List Peer → Progress → Primary
leads_as e peers progress.Gathering = Gathering e (statuses_of peers)
leads_as e peers (progress.Fetching chosen source asked later) = Installing e chosen none_acked
leads_as e peers (progress.Installing chosen acked) = Installing e chosen (acked_by acked)
leads_as e peers (progress.Active committed issued) = active_as e committed issued

abbrev pub primary_of : Option Tenure → Primary
primary_of None = Idle
primary_of (Some t) = leads_as t.epoch t.peers t.progress

-- What is seen of a file at its node, and of the rest of the world: what is kept, the bodies, the tenure; who holds, what was
-- ever sent, and what was reported.
pub record Seen : Type 0 where
  pub kept : FileRow
  pub body : ℕ → Stamp → List ℕ
  pub tenure : Option Tenure
  pub holder : Option ℕ
  pub sent : List Message
  pub entries : List Entry

abbrev pub local_of : Seen → Local
local_of a = record {
  node = record { kept = a.kept; body = a.body; primary = primary_of a.tenure };
  holder = a.holder;
  sent = a.sent;
  entries = a.entries;
}

-- what the file's primary may look at besides its tenure
abbrev pub ground_at : ℕ → ℕ → Seen → Ground
ground_at stripe n a = record {
  place = record { node = record { 0 = n }; file = a.kept.file; stripe = stripe };
  own = a.kept.head;
  held = a.kept.held;
  body = a.body;
}

-- What a step reports and sends.

-- these are among those
abbrev pub AreIn : List Message → List Message → Type 0
AreIn [] sent = Unit {0}
AreIn (x ∷ xs) sent = Has x sent × AreIn xs sent

abbrev pub name_of : OpId → ℕ × ℕ
name_of id = (id.client.0, id.number)

-- an answer to a read has the asked range of the body, cut out by the size; one to a write has the write's place
abbrev pub IsAnswer : ℕ → (ℕ × ℕ → Op) → ℕ → OpId → ℕ → List ℕ → Entry → Type 0
IsAnswer stripe ops n id count bytes (ReadOk node c size object body) =
    (at : ℕ) × (len : ℕ) × (node ≡ n) × (c ≡ count) × (ops (name_of id) ≡ op.Read object at len) × (at + len ≤ stripe)
    × (bytes ≡ cut_or_filled (drop at body) (readable size stripe object at len))
IsAnswer stripe ops n id count bytes (WriteOk node c i) = (node ≡ n) × (c ≡ count) × (i ≡ name_of id) × (bytes ≡ [])
IsAnswer stripe ops n id count bytes _ = ⊥

-- The marks of a step of this node, in order, as entries of the world, the newest first; marks of leases report nothing here.
abbrev pub AreTold : ℕ → (ℕ × ℕ → Op) → ℕ → List Mark → List Entry → List Entry → Type 0
AreTold stripe ops n [] before after = before ≡ after
AreTold stripe ops n (mark.Active file count id ∷ ms) before after = AreTold stripe ops n ms (TellsActive n count (name_of id) ∷ before) after
AreTold stripe ops n (mark.Issue file count id ∷ ms) before after = AreTold stripe ops n ms (TellsIssue n count (name_of id) ∷ before) after
AreTold stripe ops n (mark.Commit file count id ∷ ms) before after = AreTold stripe ops n ms (TellsCommit n count (name_of id) ∷ before) after
AreTold stripe ops n (mark.Answer file id count bytes ∷ ms) before after =
    (e : Entry) × IsAnswer stripe ops n id count bytes e × AreTold stripe ops n ms (e ∷ before) after
AreTold stripe ops n (_ ∷ ms) before after = AreTold stripe ops n ms before after

-- marks that report nothing here
abbrev pub AreUntold : List Mark → Type 0
AreUntold [] = Unit {0}
AreUntold (mark.Active file count id ∷ ms) = ⊥
AreUntold (mark.Issue file count id ∷ ms) = ⊥
AreUntold (mark.Commit file count id ∷ ms) = ⊥
AreUntold (mark.Answer file id count bytes ∷ ms) = ⊥
AreUntold (_ ∷ ms) = AreUntold ms

-- What a step gives is a list of small steps, each of which is allowed: what is seen after it, what it sends, and what it
-- reports. A status is sent by the rows of a replica alone.
pub record Shows (stripe : ℕ) (ops : ℕ × ℕ → Op) (members : List ℕ) (n : ℕ) (a b : Seen) (turned : Turned) : Type 0 where
  pub steps : List Step
  pub may : MayAll stripe ops members n (local_of a) steps
  pub leads : after_steps n (local_of a) steps ≡ local_of b
  pub outs : (m : Msg) → Has m turned.outs → AreIn (shown n m.payload) b.sent
  pub grows : (x : Message) → Has x a.sent → Has x b.sent
  pub told : AreTold stripe ops n turned.marks a.entries b.entries

-- What holds of a file at every moment.

-- each of these versions is held
abbrev pub NamesHeld : List ObjectVersion → List ObjectVersion → Type 0
NamesHeld held versions = (v : ObjectVersion) → Has v versions → has_version held v ≡ true

abbrev pub nodes_in : List Peer → List ℕ
nodes_in peers = map (λ p. p.node.0) peers

-- what was sent last to each peer was sent
abbrev pub PeersSent : ℕ → FileId → Epoch → List Peer → List Message → Type 0
PeersSent n file e peers sent = (p : Peer) → Has p peers → AreIn (shown_if n (last_sent file e p.state)) sent

-- who has acknowledged is a member, and counted once
abbrev pub AckedFit : List ℕ → List NodeId → Type 0
AckedFit members acked = length acked ≤ count_by (acked_by acked) members

abbrev pub IssuedFits : List ℕ → Option IssuedUpdate → Type 0
IssuedFits members None = Unit {0}
IssuedFits members (Some issued) = AckedFit members issued.acked

-- the bodies of the chosen head are there, or are still to be fetched
abbrev pub ProgressFits : List ℕ → ℕ → List ObjectVersion → List Peer → Progress → Type 0
ProgressFits members n held peers progress.Gathering = (h : FileHead) → statuses_of peers n ≡ Some h → NamesHeld held h.versions
ProgressFits members n held peers (progress.Fetching chosen source asked later) =
    (v : ObjectVersion) → Has v chosen.versions → (has_version held v ≡ true) ⊎ ((v ≡ asked) ⊎ Has v later)
ProgressFits members n held peers (progress.Installing chosen acked) = NamesHeld held chosen.versions × AckedFit members acked
ProgressFits members n held peers (progress.Active committed issued) = IssuedFits members issued

pub record FitsIn (members : List ℕ) (n : ℕ) (a : Seen) (t : Tenure) : Type 0 where
  pub peers : nodes_in t.peers ≡ members
  pub sent : PeersSent n a.kept.file t.epoch t.peers a.sent
  pub progress : ProgressFits members n a.kept.held t.peers t.progress

abbrev pub TenureFits : List ℕ → ℕ → Seen → Option Tenure → Type 0
TenureFits members n a None = a.holder ≡ Some n → ⊥
TenureFits members n a (Some t) = (a.holder ≡ Some n) × FitsIn members n a t

-- a status that a node sends itself is of bodies that it holds
abbrev pub OwnFits : ℕ → List ObjectVersion → NodeId → Payload → Type 0
OwnFits n held from (payload.Status file epoch head) = from.0 ≡ n → NamesHeld held head.versions
OwnFits n held from _ = Unit {0}

pub record Fits (members : List ℕ) (n : ℕ) (a : Seen) : Type 0 where
  -- the bodies that the own head names are held
  pub names : NamesHeld a.kept.held a.kept.head.versions
  pub tenure : TenureFits members n a a.tenure

-- A row leads here: it keeps its record, leaves this primary, and shows; and what holds goes on to hold.
pub record Leads (stripe : ℕ) (ops : ℕ × ℕ → Op) (members : List ℕ) (n : ℕ) (a : Seen) (tenure : Option Tenure) (turned : Turned) : Type 0 where
  pub behind : Seen
  pub shows : Shows stripe ops members n a behind turned
  pub kept : behind.kept ≡ kept_after a.kept turned.rec
  pub body : behind.body ≡ body_beyond a.kept.file turned.rec a.body
  pub is_tenure : behind.tenure ≡ tenure
  pub fits : Fits members n behind
  -- a step that keeps something reports nothing
  pub calm : (turned.rec ≡ None) ⊎ AreUntold turned.marks
  -- who has nothing issued in the end has kept nothing
  pub steady : is_ready tenure ≡ true → turned.rec ≡ None
