-- One file, one version of its replica list, as its nodes really keep it: what is kept of the file, what its bodies are, and
-- what a primary remembers.
use Rattle.std.specs.Prelude.{◌≡◌, ℕ, Bool, true, List, [], ◌∷◌, ◌++◌, take, Option, None, Some, ◌<◌}
use Rattle.xt_base.specs.declared.TheConstants.{NO_OBJECT}
use Rattle.xt_base.specs.declared.ids.Epoch.{Epoch}
use Rattle.xt_base.specs.declared.ids.Stamp.{Stamp}
use Rattle.xt_messages.specs.declared.file.FileHead.{FileHead}
use Rattle.xt_messages.specs.declared.file.Update.{Update}
use Rattle.xt_messages.specs.declared.message.Payload.{Payload}
use Rattle.xt_messages.specs.declared.message.Payload.TheVariants as payload
use Rattle.xt_messages.specs.declared.record.FileRow.{FileRow}
use Rattle.xt_protocol.specs.Folds as folds
use Rattle.xt_protocol.specs.Stamps.{has_version}
use Rattle.replica_safety.specs.Epochs.{at_node}
use Rattle.replica_safety.specs.Lists.{Has}
use Rattle.replica_safety.specs.Rules.{Start}
use Rattle.replica_runs.specs.FileHeads.{Body, bodies_in, head_of}
use Rattle.replica_runs.specs.Steps.{Holds}

-- What a node that may lead remembers of its epoch. A stop forgets it.
pub data Primary : Type 0 where
  Idle : Primary
  -- the statuses that it has counted
  Gathering : (epoch : Epoch) → (statuses : ℕ → Option FileHead) → Primary
  -- it has chosen this head, and these nodes have acknowledged it
  Installing : (epoch : Epoch) → (chosen : FileHead) → (acked : ℕ → Bool) → Primary
  -- this head is committed, this update is issued, and these nodes have acknowledged that one
  Active : (epoch : Epoch) → (committed : FileHead) → (issued : Option Update) → (acked : ℕ → Bool) → Primary

-- the epoch that it leads in
abbrev pub leads_in : Primary → Option Epoch
leads_in Idle = None
leads_in (Gathering e statuses) = Some e
leads_in (Installing e chosen acked) = Some e
leads_in (Active e committed issued acked) = Some e

-- What is kept of the file, what the body of a version is, and the primary.
pub record Node : Type 0 where
  pub kept : FileRow
  pub body : ℕ → Stamp → List ℕ
  pub primary : Primary

-- A message, with its sender where that counts.
pub data Message : Type 0 where
  Gather : (epoch : Epoch) → Message
  Status : (replica : ℕ) → (epoch : Epoch) → (head : FileHead) → Message
  Head : (epoch : Epoch) → (head : FileHead) → Message
  UpdateSent : (update : Update) → Message
  Ack : (replica : ℕ) → (stamp : Stamp) → Message
  -- a body, whether it is fetched or staged
  Piece : (object : ℕ) → (version : Stamp) → (bytes : List ℕ) → Message

-- what a message of a node says to this world; the rest teaches nothing that safety rests on
abbrev pub shown : ℕ → Payload → List Message
shown n (payload.Gather file epoch) = Gather epoch ∷ []
shown n (payload.Status file epoch head) = Status n epoch head ∷ []
shown n (payload.Object file epoch object version bytes) = Piece object version bytes ∷ []
shown n (payload.Stage file epoch object version bytes) = Piece object version bytes ∷ []
shown n (payload.Head file epoch head) = Head epoch head ∷ []
shown n (payload.Update file update) = UpdateSent update ∷ []
shown n (payload.Ack file stamp) = Ack n stamp ∷ []
shown n _ = []

abbrev pub shown_if : ℕ → Option Payload → List Message
shown_if n None = []
shown_if n (Some content) = shown n content

-- What the trace reports. The bytes of a read are cut out of the object's body by the size.
pub data Entry : Type 0 where
  TellsActive : (node count : ℕ) → (id : ℕ × ℕ) → Entry
  TellsIssue : (node count : ℕ) → (id : ℕ × ℕ) → Entry
  TellsCommit : (node count : ℕ) → (id : ℕ × ℕ) → Entry
  ReadOk : (node count size object : ℕ) → (body : List ℕ) → Entry
  WriteOk : (node count : ℕ) → (id : ℕ × ℕ) → Entry

pub record World : Type 0 where
  pub nodes : ℕ → Node
  -- the node that holds the lease, and leads
  pub holder : Option ℕ
  -- every message ever sent
  pub sent : List Message
  -- the newest first
  pub entries : List Entry

-- what the steps of one node read and change
pub record Local : Type 0 where
  pub node : Node
  pub holder : Option ℕ
  pub sent : List Message
  pub entries : List Entry

abbrev pub local : World → ℕ → Local
local w n = record { node = w.nodes n; holder = w.holder; sent = w.sent; entries = w.entries }

-- the world with this of one node
abbrev pub put : World → ℕ → Local → World
put w n l = record { nodes = at_node n l.node w.nodes; holder = l.holder; sent = l.sent; entries = l.entries }

-- The versions that are held are those of these bodies, and have their bytes.
pub record BodiesAre (kept : FileRow) (body : ℕ → Stamp → List ℕ) (held : List Body) : Type 0 where
  pub has : (o : ℕ) (v : Stamp) → has_version kept.held (folds.body_of o v) ≡ true
      → Has (record { object = o; version = v; bytes = body o v }) held
  pub holds : (o : ℕ) (v : Stamp) → o < NO_OBJECT → Holds held o v → has_version kept.held (folds.body_of o v) ≡ true

-- the writes that a node has at a start
abbrev pub has_at : Start → ℕ → List Update
has_at start r = take (start.holds r) (start.line ++ start.open_writes)

-- a body of a write before this version
abbrev pub IsOldPiece : List Body → Message → Type 0
IsOldPiece old (Piece object version bytes) = Has (record { object = object; version = version; bytes = bytes }) old
IsOldPiece old (Gather epoch) = ⊥
IsOldPiece old (Status replica epoch head) = ⊥
IsOldPiece old (Head epoch head) = ⊥
IsOldPiece old (UpdateSent update) = ⊥
IsOldPiece old (Ack replica stamp) = ⊥

-- A world in which this version of the list begins: each node has the head and the bodies of its writes, and nothing was sent but bodies
-- of writes before.
pub record BeginsAt (start : Start) (w : World) : Type 0 where
  pub head : (r : ℕ) → (w.nodes r).kept.head ≡ head_of (start.promised r) start.epoch (has_at start r)
  pub bodies : (r : ℕ) → BodiesAre (w.nodes r).kept (w.nodes r).body (bodies_in (has_at start r))
  pub idle : (r : ℕ) → (w.nodes r).primary ≡ Idle
  pub free : w.holder ≡ None
  pub silent : (m : Message) → Has m w.sent → IsOldPiece start.old m
  pub untold : w.entries ≡ []
